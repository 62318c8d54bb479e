-- What is entered of admitted requests is admitted.
use Rattle.std.proofs.Common.{List, [], ◌∷◌}
use Rattle.std.specs.List.{AllByRecursion}
use Rattle.std.proofs.lemmas.Bool.{cond_both}
use Rattle.units.specs.Meanings.{Meaning}
use Rattle.readings.specs.Readings.{refused, says}
use Rattle.account.specs.Requests.{Request, tariff, add_on, advance, start, release, amount_owed, look_ahead, total, line}
use Rattle.account.specs.Journals.{Event, tariff_came, add_on_came, started, released, Dated, Past}
use Rattle.account.specs.Answers.{further, is_accepted, past}
use Rattle.hearing.specs.Hearing.{ContentAdmitted}
use Rattle.standing.specs.Steps.{RequestAdmitted}

abbrev pub EventAdmitted : Meaning → Event → Type 0
EventAdmitted m (tariff_came c) = ContentAdmitted m c
EventAdmitted m (add_on_came c) = ContentAdmitted m c
EventAdmitted m started = Unit {0}
EventAdmitted m released = Unit {0}

abbrev pub JournalAdmitted : Meaning → List Dated → Type 0
JournalAdmitted m j = AllByRecursion (λ d. EventAdmitted m d.event) j

pub admitted_further :
    (m : Meaning) (r : Request) (p : Past) → JournalAdmitted m p.journal → RequestAdmitted m r → JournalAdmitted m (further r p).journal
admitted_further m (tariff (refused f)) p a h = a
admitted_further m (tariff (says c)) p a h = (h, a)
admitted_further m (add_on (refused f)) p a h = a
admitted_further m (add_on (says c)) p a h = (h, a)
admitted_further m (advance n) p a h = a
admitted_further m start p a h = (tt, a)
admitted_further m release p a h = (tt, a)
admitted_further m (amount_owed network) p a h = a
admitted_further m (look_ahead network n) p a h = a
admitted_further m total p a h = a
admitted_further m (line i) p a h = a

pub admitted_past : (m : Meaning) (h : List Request) → AllByRecursion (RequestAdmitted m) h → JournalAdmitted m (past h).journal
admitted_past m [] a = tt
admitted_past m (r ∷ h) (one, a) =
    cond_both (is_accepted (past h) r) _ _ (λ (p : Past). JournalAdmitted m p.journal)
    (λ _. admitted_further m r (past h) (admitted_past m h a) one) (λ _. admitted_past m h a)
