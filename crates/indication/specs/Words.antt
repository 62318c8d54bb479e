-- The words for what an indication says, and for its refusal.
use Rattle.std.specs.Prelude.{ℕ, ◌++◌, List, [], cond, codes, decimal, ◌==◌, nat_le, Bool, ◌&&◌, slice_index}
use Rattle.std.specs.List.{list_all}
use Rattle.std.proofs.Math.Utf8.{encode}
use Rattle.std.specs.Fmt.{signed_decimal}
use Rattle.indication.specs.declared.entry.Usage.{Usage}
use Rattle.indication.specs.declared.entry.Usage.TheVariants as usage
use Rattle.indication.specs.declared.entry.Charge.{Charge}
use Rattle.indication.specs.declared.entry.Term.{Term}
use Rattle.indication.specs.declared.header.Kind.{Kind}
use Rattle.indication.specs.declared.header.Kind.TheVariants as kind
use Rattle.indication.specs.declared.header.Change.{Change}
use Rattle.indication.specs.declared.header.Change.TheVariants.{WithoutRestart, WithRestart}
use Rattle.indication.specs.declared.header.TariffControl.{TariffControl}
use Rattle.indication.specs.declared.header.TariffControl.TheVariants.{Cyclic, NonCyclic}
use Rattle.indication.specs.declared.header.Mark.{Mark}
use Rattle.indication.specs.declared.fault.Fault.{Fault}
use Rattle.indication.specs.declared.fault.Fault.TheVariants.{WrongLength, BrokenLayout, EmptyTariff, WrongDuration, ForeignMark, NotAdmitted, NoRoom, TooManyIndications, AddOnBeforeTariff, NoCurrentTariff, TooManyNetworks, PastLimit}
use Rattle.indication.specs.declared.fault.Layer.{Layer}
use Rattle.indication.specs.declared.fault.Layer.TheVariants.{Reader, Unit, Writer, Meter}
use Rattle.indication.specs.Faults.{number_of, layer_of, offset_of}

abbrev pub kind_word : Kind → List ℕ
kind_word kind.Tariff = codes "tariff"
kind_word kind.AddOn = codes "add-on"

abbrev pub change_word : Change → List ℕ
change_word WithoutRestart = codes "without restart"
change_word WithRestart = codes "with restart"

abbrev pub control_word : TariffControl → List ℕ
control_word Cyclic = codes "cyclic"
control_word NonCyclic = codes "not cyclic"

abbrev pub usage_word : Usage → List ℕ
usage_word usage.Periodic = codes "periodic"
usage_word usage.OneTime = codes "one-time"
usage_word usage.SetUp = codes "set-up"
usage_word usage.Attempt = codes "attempt"
usage_word usage.AddOn = codes "add-on"

abbrev pub layer_word : Layer → List ℕ
layer_word Reader = codes "reader"
layer_word Unit = codes "unit"
layer_word Writer = codes "writer"
layer_word Meter = codes "meter"

-- a letter that is shown as it is, a space to a tilde
abbrev pub is_printable : ℕ → Bool
is_printable letter = nat_le 32 letter && nat_le letter 126

-- three letters as they are, in quotation marks
abbrev pub letters_text : ℕ → ℕ → ℕ → List ℕ
letters_text a b c = codes "\"" ++ (encode a ++ (encode b ++ (encode c ++ codes "\"")))

-- three letters by their codes, in brackets
abbrev pub numbers_text : ℕ → ℕ → ℕ → List ℕ
numbers_text a b c =
    codes "(" ++ (decimal a ++ (codes ", " ++ (decimal b ++ (codes ", " ++ (decimal c ++ codes ")")))))

-- the kind of a mark, and its letters, as they are where all are printable
abbrev pub mark_text : Mark → List ℕ
mark_text m =
    let a = slice_index m.letters 0 in
    let b = slice_index m.letters 1 in
    let c = slice_index m.letters 2 in
    decimal m.kind
    ++ (codes " " ++ cond (list_all is_printable m.letters) (letters_text a b c) (numbers_text a b c))

abbrev pub charge_text : Charge → List ℕ
charge_text c = codes "size " ++ decimal c.size ++ codes ", step " ++ signed_decimal c.step

-- how long a subtariff lasts
abbrev pub duration_text : ℕ → List ℕ
duration_text seconds = cond (seconds == 0) (codes ", without end") (codes ", " ++ decimal seconds ++ codes " s")

-- A term's duration is told where its use has one.
abbrev pub told_duration : Usage → ℕ → List ℕ
told_duration usage.Periodic seconds = duration_text seconds
told_duration usage.OneTime seconds = duration_text seconds
told_duration usage.SetUp seconds = []
told_duration usage.Attempt seconds = []
told_duration usage.AddOn seconds = []

abbrev pub term_text : Term → List ℕ
term_text t = usage_word t.usage ++ told_duration t.usage t.duration

-- the rule that the byte at an offset breaks
abbrev pub broken_rule : ℕ → List ℕ
broken_rule at =
    cond (nat_le at 1) (codes "a tariff has at most 6 entries, and an add-on is one entry")
    (cond (at == 2) (codes "the kind is 1 for a tariff or 2 for an add-on")
    (cond (at == 3) (codes "the change is 0 or 1, and 0 in an add-on")
    (cond (nat_le at 5) (codes "the control is 0 or 1, and 0 without a tariff")
    (cond (at == 6) (codes "the quarter hour is 1 to 96 with a next tariff, and else 0")
    (cond (at == 11) (codes "this byte is 0")
    (codes "the use is unknown or does not stand here"))))))

abbrev pub reason_text : Fault → List ℕ
reason_text (WrongLength at) = codes "the length is not that of a header and the entries that it counts"
reason_text (BrokenLayout at) = broken_rule at
reason_text EmptyTariff = codes "a tariff indication without an entry"
reason_text (WrongDuration at) = codes "the use of this entry does not allow its duration"
reason_text ForeignMark = codes "the mark is that of another charge unit"
reason_text (NotAdmitted at) = codes "the unit does not admit this charge for its use"
reason_text (NoRoom needed) = codes "so many bytes are needed"
reason_text TooManyIndications = codes "512 indications were accepted already"
reason_text AddOnBeforeTariff = codes "this network has sent no tariff yet"
reason_text NoCurrentTariff = codes "the first tariff of a network is a current one"
reason_text TooManyNetworks = codes "a call has at most four networks"
reason_text (PastLimit left) = codes "so many seconds are left"

abbrev pub fault_text : Fault → List ℕ
fault_text f =
    codes "refused with "
    ++ (decimal (number_of f)
    ++ (codes " ("
    ++ (layer_word (layer_of f) ++ (codes ") at offset " ++ (decimal (offset_of f) ++ (codes ": " ++ reason_text f))))))
