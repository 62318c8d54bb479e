-- What the reading of a code tells.
use Rattle.std.proofs.Common.{◌≡◌, ℕ, ◌<◌, ◌⊎◌, Ok, Err, Result, MatchOption, arith}
use Rattle.std.specs.Result.{result_ok, result_unwrap_or}
use Rattle.std.proofs.lemmas.Bool.Decides.{nat_tests}
use Rattle.indication.specs.declared.code.UnknownCode.{UnknownCode}
use Rattle.indication.specs.declared.entry.Usage.{Usage}
use Rattle.indication.specs.declared.entry.Usage.TheVariants as usage
use Rattle.indication.specs.declared.header.Kind.{Kind}
use Rattle.indication.specs.declared.header.Kind.TheVariants as kind
use Rattle.indication.specs.declared.header.Change.{Change}
use Rattle.indication.specs.declared.header.Change.TheVariants.{WithoutRestart, WithRestart}
use Rattle.indication.specs.declared.header.TariffControl.{TariffControl}
use Rattle.indication.specs.declared.header.TariffControl.TheVariants.{Cyclic, NonCyclic}
use Rattle.indication.specs.Codes.{Decodes, kind_code, change_code, control_code, usage_code, change_of, control_of}

pub kind_named :
    (code : ℕ) (r : Result Kind UnknownCode)
    → Decodes kind_code code r → MatchOption (result_ok r) ((code ≡ 0) ⊎ (2 < code)) (λ k. kind_code k ≡ code)
kind_named code (Ok k) h = h
kind_named code (Err _) (_, none) = let one = none kind.Tariff in let two = none kind.AddOn in grind arith

pub usage_named :
    (code : ℕ) (r : Result Usage UnknownCode)
    → Decodes usage_code code r → MatchOption (result_ok r) (4 < code) (λ u. usage_code u ≡ code)
usage_named code (Ok u) h = h
usage_named code (Err _) (_, none) =
    let zero = none usage.Periodic in
    let one = none usage.OneTime in
    let two = none usage.SetUp in
    let three = none usage.Attempt in
    let four = none usage.AddOn in
    omega arith

pub change_read : (code : ℕ) (r : Result Change UnknownCode) → Decodes change_code code r → result_unwrap_or r WithRestart ≡ change_of code
change_read code (Ok WithoutRestart) h = rw (← h)
change_read code (Ok WithRestart) h = rw (← h)
change_read code (Err _) (_, none) = let zero = none WithoutRestart in grind (arith, nat_tests)

pub control_read : (code : ℕ) (r : Result TariffControl UnknownCode) → Decodes control_code code r → result_unwrap_or r NonCyclic ≡ control_of code
control_read code (Ok Cyclic) h = rw (← h)
control_read code (Ok NonCyclic) h = rw (← h)
control_read code (Err _) (_, none) = let zero = none Cyclic in grind (arith, nat_tests)

pub ruleset decodings = (kind_named, usage_named, change_read, control_read)
