-- The command of a line is what the line says.
use Rattle.std.proofs.Common.{◌≡◌, ℕ, ◌≤◌, List, length, refl, ap, ◌∙◌, subst, arith}
use Rattle.std.proofs.lemmas.List.{length-take}
use Rattle.units.specs.Meanings.{Meaning}
use Rattle.account.specs.declared.answer.Answer.{Answer}
use Rattle.account.specs.Requests.{Asked}
use Rattle.commands.specs.declared.command.Command.{Command}
use Rattle.commands.specs.declared.command.Command.TheVariants.{Tariff, AddOn, Advance, Start, Release}
use Rattle.commands.specs.Sayings.{Says, bytes_of, said_of, size_of}
use Rattle.commands.proofs.Readings.{says_once}
use Rattle.meter.specs.declared.meter.Meter.{Meter}
use Rattle.meter.specs.Meters.{Performs}
use Rattle.exchange.specs.declared.reply.Reply.{Reply}
use Rattle.exchange.specs.Exchanges.{LinePerformed, asked_by, echoed, letter_in, letter_of}

same_letter : (command : Command) (buffer : List ℕ) → letter_of command ≡ letter_in (said_of command buffer)
same_letter (Tariff n) buffer = refl
same_letter (AddOn n) buffer = refl
same_letter (Advance n) buffer = refl
same_letter Start buffer = refl
same_letter Release buffer = refl

few_bytes : (command : Command) (buffer : List ℕ) → length (bytes_of (said_of command buffer)) ≤ size_of command
few_bytes (Tariff n) buffer = omega (arith, length-take n buffer)
few_bytes (AddOn n) buffer = omega (arith, length-take n buffer)
few_bytes (Advance n) buffer = omega arith
few_bytes Start buffer = omega arith
few_bytes Release buffer = omega arith

pub line_performed :
    {U : Type 0} (meaning : U → Meaning) (before after : Meter U) (line buffer : List ℕ) (command : Command) (r : Asked) (given : Answer) (reply : Reply)
    → Says line (said_of command buffer) → size_of command ≤ 200 → r ≡ asked_by (said_of command buffer)
    → Performs meaning before r after given → reply ≡ echoed (letter_of command) given → LinePerformed meaning before line after reply
line_performed meaning before after line buffer command r given reply says short is performs echo =
    record {
      spoken = λ s h _.
          let same = says_once line (said_of command buffer) s says h in
          (given, subst (λ q. Performs meaning before q after given) (is ∙ ap asked_by same) performs, echo ∙ ap (λ l. echoed l given) (same_letter command buffer ∙ ap letter_in same));
      silent = λ none. absurd (none (said_of command buffer) says (omega (arith, short, few_bytes command buffer)));
    }
