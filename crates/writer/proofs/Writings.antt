-- What a copy into the buffer comes to.
use Rattle.std.proofs.Common.{◌≡◌, ℕ, ◌≤◌, List, ◌++◌, length, drop, ap, ◌∙◌, subst}
use Rattle.indication.specs.Fits.{Fits}
use Rattle.indication.specs.Format.{Content, encoded}
use Rattle.indication.specs.Rules.{Accepted}
use Rattle.indication.proofs.Reread.{decoded_encoded}
use Rattle.writer.specs.Writing.{Written}

pub copied :
    (c : Content) (w b before part : List ℕ) → Fits c → w ≡ encoded c → b ≡ w → Accepted c.header.kind b
    → length b ≤ length before → part ≡ b → Written c before (part ++ drop (length b) before) (length b)
copied c w b before part fits is read ok room copy =
    let e : b ≡ encoded c = read ∙ is in
    record {
      accepted = subst (Accepted c.header.kind) e ok;
      long = ap length e;
      room = room;
      bytes = ap (λ p. p ++ drop (length b) before) (copy ∙ e);
      reads_back = decoded_encoded c fits;
    }
