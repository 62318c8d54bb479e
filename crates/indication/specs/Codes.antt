-- The byte that stands for each case, and the case that a byte stands for.
-- An accepted indication has no byte but those of the first kind; the second say what any byte is read as.
use Rattle.std.specs.Prelude.{◌≡◌, ◌≢◌, ℕ, cond, ◌==◌, Result, MatchResult}
use Rattle.indication.specs.declared.code.UnknownCode.{UnknownCode}
use Rattle.indication.specs.declared.entry.Usage.{Usage}
use Rattle.indication.specs.declared.entry.Usage.TheVariants as usage
use Rattle.indication.specs.declared.header.Kind.{Kind}
use Rattle.indication.specs.declared.header.Kind.TheVariants as kind
use Rattle.indication.specs.declared.header.Change.{Change}
use Rattle.indication.specs.declared.header.Change.TheVariants.{WithoutRestart, WithRestart}
use Rattle.indication.specs.declared.header.TariffControl.{TariffControl}
use Rattle.indication.specs.declared.header.TariffControl.TheVariants.{Cyclic, NonCyclic}

abbrev pub kind_code : Kind → ℕ
kind_code kind.Tariff = 1
kind_code kind.AddOn = 2

abbrev pub change_code : Change → ℕ
change_code WithoutRestart = 0
change_code WithRestart = 1

abbrev pub control_code : TariffControl → ℕ
control_code Cyclic = 0
control_code NonCyclic = 1

abbrev pub usage_code : Usage → ℕ
usage_code usage.Periodic = 0
usage_code usage.OneTime = 1
usage_code usage.SetUp = 2
usage_code usage.Attempt = 3
usage_code usage.AddOn = 4

abbrev pub kind_of : ℕ → Kind
kind_of code = cond (code == 1) kind.Tariff kind.AddOn

abbrev pub change_of : ℕ → Change
change_of code = cond (code == 0) WithoutRestart WithRestart

abbrev pub control_of : ℕ → TariffControl
control_of code = cond (code == 0) Cyclic NonCyclic

abbrev pub usage_of : ℕ → Usage
usage_of code =
    cond (code == 0) usage.Periodic
    (cond (code == 1) usage.OneTime (cond (code == 2) usage.SetUp (cond (code == 3) usage.Attempt usage.AddOn)))

-- The result is the case that has this code, or an error with a code that no case has.
abbrev pub Decodes : {Case : Type 0} → (Case → ℕ) → ℕ → Result Case UnknownCode → Type 0
Decodes {Case} code_of code r =
    MatchResult r (λ this. code_of this ≡ code) (λ e. (e.0 ≡ code) × ((other : Case) → code_of other ≢ code))
