-- A list of requests, one after the other.
use Rattle.std.proofs.Common.{◌≡◌, ℕ, ◌+◌, ◌<◌, List, [], ◌∷◌, ◌++◌, map, reverse, length, get_or, take, sym, ap, ◌∙◌, subst}
use Rattle.std.proofs.lemmas.List.{map-append, reverse-append, take_more}
use Rattle.units.specs.Meanings.{Meaning}
use Rattle.account.specs.declared.answer.Answer.{Answer}
use Rattle.meter.specs.declared.request.Request.{Request}
use Rattle.meter.specs.declared.meter.Meter.{Meter}
use Rattle.meter.specs.Meters.{CameBy, Performs, asked, unit_of}

-- the requests up to one, newest first
newest_request :
    (requests : List Request) (i : ℕ) (d : Request) → i < length requests
    → reverse (map asked (take (i + 1) requests)) ≡ asked (get_or requests i d) ∷ reverse (map asked (take i requests))
newest_request requests i d more =
    ap (λ l. reverse (map asked l)) (take_more requests i d more)
    ∙ ap reverse (map-append asked (take i requests) (get_or requests i d ∷ []))
    ∙ reverse-append (map asked (take i requests)) (asked (get_or requests i d) ∷ [])

pub one_more :
    {U : Type 0} (meaning : U → Meaning) (u : U) (opening : ℕ) (before after : Meter U) (requests : List Request) (i : ℕ) (d : Request)
    (earlier items : List Answer) (given : Answer) → i < length requests → unit_of before ≡ u
    → Performs meaning before (asked (get_or requests i d)) after given → items ≡ earlier ++ given ∷ []
    → CameBy (meaning u) opening (reverse (map asked (take i requests))) (reverse earlier) before
    → (unit_of after ≡ u) × CameBy (meaning u) opening (reverse (map asked (take (i + 1) requests))) (reverse items) after
one_more meaning u opening before after requests i d earlier items given more is performs pushed by =
    let came = performs.came opening _ _ (subst (λ v. CameBy (meaning v) opening (reverse (map asked (take i requests))) (reverse earlier) before) (sym is) by) in (
      performs.kept ∙ is,
      rw (newest_request requests i d more, pushed, reverse-append earlier (given ∷ []))
          (subst (λ v. CameBy (meaning v) opening (asked (get_or requests i d) ∷ reverse (map asked (take i requests))) (given ∷ reverse earlier) after) is came),
    )
