-- What the bytes of a content say is that content.
use Rattle.std.proofs.Common.{◌≡◌, ℕ, ◌+◌, ◌*◌, ◌^◌, ◌<◌, List, [], ◌∷◌, ◌++◌, map, length, get_or, take, ℤ, sym, refl, ap, ◌∙◌, append_assoc, append-nil, mod-eq_of_lt, arith, w16, to_z, of_z}
use Rattle.std.specs.List.{range_with_len, flat_map}
use Rattle.std.proofs.lemmas.Int.{to_z-of_z}
use Rattle.std.proofs.lemmas.List.FromFn.{length-map-range_with_len, get_or-map-range_with_len}
use Rattle.std.proofs.Math.Facts.{Fits-of_z}
use Rattle.std.proofs.ByRecursion.{All-get_or}
use Rattle.std.proofs.lemmas.List.{take_all, same_lists, length-append, get_or_append_left, get_or-append-add}
use Rattle.indication.specs.declared.header.Kind.{Kind}
use Rattle.indication.specs.declared.header.Kind.TheVariants as kind
use Rattle.indication.specs.declared.header.Header.{Header}
use Rattle.indication.specs.declared.header.Change.{Change}
use Rattle.indication.specs.declared.header.Change.TheVariants.{WithoutRestart, WithRestart}
use Rattle.indication.specs.declared.header.TariffControl.{TariffControl}
use Rattle.indication.specs.declared.header.TariffControl.TheVariants.{Cyclic, NonCyclic}
use Rattle.indication.specs.declared.entry.Usage.{Usage}
use Rattle.indication.specs.declared.entry.Usage.TheVariants as usage
use Rattle.indication.specs.declared.entry.Entry.{Entry}
use Rattle.indication.specs.Numbers.{value, big_endian}
use Rattle.indication.specs.Codes.{kind_code, change_code, control_code, usage_code, kind_of, change_of, control_of, usage_of}
use Rattle.indication.specs.Format.{byte, part, entry_count, charge_offset, term_offset, header_of, entry_at, Content, decoded, charge_bytes, term_bytes, first_eight, header_bytes, entries, encoded}
use Rattle.indication.specs.Fits.{Fits, ChargeFits, TermFits}
use Rattle.indication.proofs.Digits.{value_big_endian}
use Rattle.indication.proofs.Spans.{part_append, part_at, part_joined, length_joined}

-- a case is had back from its code
kind_of_kind_code : (k : Kind) → kind_of (kind_code k) ≡ k
kind_of_kind_code kind.Tariff = refl
kind_of_kind_code kind.AddOn = refl

change_of_change_code : (c : Change) → change_of (change_code c) ≡ c
change_of_change_code WithoutRestart = refl
change_of_change_code WithRestart = refl

control_of_control_code : (c : TariffControl) → control_of (control_code c) ≡ c
control_of_control_code Cyclic = refl
control_of_control_code NonCyclic = refl

usage_of_usage_code : (u : Usage) → usage_of (usage_code u) ≡ u
usage_of_usage_code usage.Periodic = refl
usage_of_usage_code usage.OneTime = refl
usage_of_usage_code usage.SetUp = refl
usage_of_usage_code usage.Attempt = refl
usage_of_usage_code usage.AddOn = refl

value_back : (n x : ℕ) → x < 256 ^ n → value (big_endian n x) ≡ x
value_back n x h = value_big_endian n x ∙ mod-eq_of_lt h

-- lists of one length that are followed by others
append_same : {X : Type 0} (xs ys s t : List X) → length xs ≡ length ys → xs ++ s ≡ ys ++ t → (xs ≡ ys) × (s ≡ t)
append_same [] [] s t l e = (refl, e)
append_same [] (y ∷ ys) s t l e = absurd (omega arith)
append_same (x ∷ xs) [] s t l e = absurd (omega arith)
append_same (x ∷ xs) (y ∷ ys) s t l e =
    let rest : xs ++ s ≡ ys ++ t = cc in
    let head : x ≡ y = cc in
    let same = append_same xs ys s t (omega arith) rest in
    let front : xs ≡ ys = same.0 in
    (cc, same.1)

-- an entry, from its four parts
same_entry :
    (e : Entry) (size : ℕ) (step : ℤ) (use_of : Usage) (duration : ℕ)
    → size ≡ e.charge.size → step ≡ e.charge.step → use_of ≡ e.term.usage → duration ≡ e.term.duration
    → record { charge = record { size = size; step = step }; term = record { usage = use_of; duration = duration } } ≡ e
same_entry e size step use_of duration p q r t = rw (p, q, r, t)

-- an entry, from the bytes of its charge and its term
entry_back :
    (b : List ℕ) (i : ℕ) (e : Entry) → ChargeFits e → TermFits e
    → part b (charge_offset i) 6 ≡ charge_bytes e → part b (term_offset b i) 3 ≡ term_bytes e
    → entry_at b i ≡ e
entry_back b i e c_fits t_fits c t =
    let cut = part_append b (charge_offset i) 4 2 in
    let two : (part b (charge_offset i) 4 ≡ big_endian 4 e.charge.size) × (part b (charge_offset i + 4) 2 ≡ big_endian 2 (of_z w16 e.charge.step)) =
    append_same (part b (charge_offset i) 4) (big_endian 4 e.charge.size) _ _ refl (sym cut ∙ c) in
    let use_byte : byte b (term_offset b i) ≡ usage_code e.term.usage = cc in
    let use_is : usage_of (byte b (term_offset b i)) ≡ e.term.usage = ap usage_of use_byte ∙ usage_of_usage_code e.term.usage in
    let seconds : part b (term_offset b i + 1) 2 ≡ big_endian 2 e.term.duration = cc in
    same_entry e _ _ _ _
    (ap value two.0 ∙ value_back 4 e.charge.size c_fits.0)
    (ap (to_z w16) (ap value two.1 ∙ value_back 2 (of_z w16 e.charge.step) (Fits-of_z c_fits.1).fits) ∙ to_z-of_z w16 e.charge.step c_fits.1)
    use_is
    (ap value seconds ∙ value_back 2 e.term.duration t_fits)

-- a header, from its fields
same_header :
    (h : Header) (k : Kind) (change : Change) (one two : TariffControl) (quarter mark : ℕ) (ls : List ℕ) (network reference : ℕ)
    → k ≡ h.kind → change ≡ h.change → one ≡ h.current_control → two ≡ h.next_control → quarter ≡ h.quarter
    → mark ≡ h.mark.kind → ls ≡ h.mark.letters → network ≡ h.network → reference ≡ h.reference
    → record {
      kind = k;
      change = change;
      current_control = one;
      next_control = two;
      quarter = quarter;
      mark = record { kind = mark; letters = ls };
      network = network;
      reference = reference;
    }
    ≡ h
same_header h k change one two quarter mark ls network reference e f g i j l m n o = rw (e, f, g, i, j, l, m, n, o)

same_content : (c : Content) (h : Header) (xs ys : List Entry) → h ≡ c.header → xs ≡ c.current → ys ≡ c.next → record { header = h; current = xs; next = ys } ≡ c
same_content c h xs ys e f g = rw (e, f, g)

-- the parts of the header, each with what stands before and behind it
at_letters : (p l n f r : List ℕ) → p ++ ((l ++ (0 ∷ (n ++ f))) ++ r) ≡ p ++ (l ++ (0 ∷ ((n ++ f) ++ r)))
at_letters p l n f r = simp append_assoc

at_network : (p l n f r : List ℕ) → p ++ ((l ++ (0 ∷ (n ++ f))) ++ r) ≡ (p ++ (l ++ (0 ∷ []))) ++ (n ++ (f ++ r))
at_network p l n f r = simp append_assoc

at_reference : (p l n f r : List ℕ) → p ++ ((l ++ (0 ∷ (n ++ f))) ++ r) ≡ (p ++ (l ++ (0 ∷ n))) ++ (f ++ r)
at_reference p l n f r = simp append_assoc

module _ (c : Content) (fits : Fits c) where
  -- the header
  abbrev head : List ℕ
  head = header_bytes (length c.current) (length c.next) c.header

  header_long : length head ≡ 24
  header_long = simp length-append (omega (arith, fits.header.letters))

  -- its first eight bytes, and what follows it
  abbrev front : List ℕ
  front = first_eight (length c.current) (length c.next) c.header

  abbrev rest : List ℕ
  rest = flat_map charge_bytes (entries c) ++ flat_map term_bytes (entries c)

  letters_back : part (encoded c) 8 3 ≡ c.header.mark.letters
  letters_back =
      let ls : List ℕ = c.header.mark.letters in
      ap (λ b. part b 8 3) (at_letters front ls (big_endian 8 c.header.network) (big_endian 4 c.header.reference) rest)
      ∙ part_at front ls _ 8 3 refl fits.header.letters

  network_back : value (part (encoded c) 12 8) ≡ c.header.network
  network_back =
      let ls : List ℕ = c.header.mark.letters in
      ap (λ b. value (part b 12 8)) (at_network front ls (big_endian 8 c.header.network) (big_endian 4 c.header.reference) rest)
      ∙ ap value (part_at (front ++ (ls ++ (0 ∷ []))) (big_endian 8 c.header.network) (big_endian 4 c.header.reference ++ rest) 12 8
      (omega (arith, length-append ls (0 ∷ []), fits.header.letters)) refl)
      ∙ value_back 8 c.header.network fits.header.network

  reference_back : value (part (encoded c) 20 4) ≡ c.header.reference
  reference_back =
      let ls : List ℕ = c.header.mark.letters in
      ap (λ b. value (part b 20 4)) (at_reference front ls (big_endian 8 c.header.network) (big_endian 4 c.header.reference) rest)
      ∙ ap value (part_at (front ++ (ls ++ (0 ∷ big_endian 8 c.header.network))) (big_endian 4 c.header.reference) rest 20 4
      (omega (arith, length-append ls (0 ∷ big_endian 8 c.header.network), fits.header.letters)) refl)
      ∙ value_back 4 c.header.reference fits.header.reference

  header_back : header_of (encoded c) ≡ c.header
  header_back =
      same_header c.header _ _ _ _ _ _ _ _ _ (kind_of_kind_code c.header.kind) (change_of_change_code c.header.change)
      (control_of_control_code c.header.current_control) (control_of_control_code c.header.next_control) refl refl letters_back network_back
      reference_back

  entry_at_encoded : (i : ℕ) (d : Entry) → i < length (entries c) → entry_at (encoded c) i ≡ get_or (entries c) i d
  entry_at_encoded i d h =
      let es : List Entry = entries c in
      let count : length es ≡ entry_count (encoded c) = length-append c.current c.next in
      let behind : encoded c ≡ (head ++ flat_map charge_bytes es) ++ (flat_map term_bytes es ++ []) =
      sym (append_assoc (head) (flat_map charge_bytes es) (flat_map term_bytes es))
      ∙ ap (λ t. (head ++ flat_map charge_bytes es) ++ t) (sym (append-nil (flat_map term_bytes es))) in
      let at_term : length (head ++ flat_map charge_bytes es) + 3 * i ≡ term_offset (encoded c) i =
      omega (arith, length-append (head) (flat_map charge_bytes es), header_long, length_joined charge_bytes 6 (λ e. refl) es, count) in
      entry_back (encoded c) i (get_or es i d) (All-get_or ChargeFits es i d h fits.charges) (All-get_or TermFits es i d h fits.terms)
      (part_joined charge_bytes 6 (λ e. refl) (head) (flat_map term_bytes es) es i (charge_offset i) d h (ap (λ n. n + 6 * i) header_long))
      (ap (λ b. part b (term_offset (encoded c) i) 3) behind
      ∙ part_joined term_bytes 3 (λ e. refl) (head ++ flat_map charge_bytes es) [] es i (term_offset (encoded c) i) d h at_term)

  current_back : map (entry_at (encoded c)) (range_with_len 0 (length c.current)) ≡ c.current
  current_back =
      same_lists _ _ (length-map-range_with_len (entry_at (encoded c)) 0 (length c.current))
      (λ k d h.
      let l : k < length c.current = omega (arith, length-map-range_with_len (entry_at (encoded c)) 0 (length c.current)) in
      get_or-map-range_with_len (entry_at (encoded c)) 0 (length c.current) k k d l (omega arith)
      ∙ entry_at_encoded k d (omega (arith, length-append c.current c.next))
      ∙ get_or_append_left c.current c.next d k l)

  next_back : map (entry_at (encoded c)) (range_with_len (length c.current) (length c.next)) ≡ c.next
  next_back =
      same_lists _ _ (length-map-range_with_len (entry_at (encoded c)) (length c.current) (length c.next))
      (λ k d h.
      let l : k < length c.next = omega (arith, length-map-range_with_len (entry_at (encoded c)) (length c.current) (length c.next)) in
      get_or-map-range_with_len (entry_at (encoded c)) (length c.current) (length c.next) k (length c.current + k) d l refl
      ∙ entry_at_encoded (length c.current + k) d (omega (arith, length-append c.current c.next))
      ∙ get_or-append-add c.current c.next k d)

  pub decoded_encoded : decoded (encoded c) ≡ c
  decoded_encoded =
      same_content c _ _ _ header_back (ap (take 6) current_back ∙ take_all 6 c.current fits.few_current)
      (ap (take 6) next_back ∙ take_all 6 c.next fits.few_next)
