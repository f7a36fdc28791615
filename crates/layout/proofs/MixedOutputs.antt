-- Where a name comes twice among the output sections of pieces, its pieces are of several, and the other way round.
use Rattle.std.proofs.Common.{◌≡◌, ℕ, ◌<◌, ◌&&◌, ◌||◌, ◌⊎◌, inl, inr, Bool, true, false, not, List, [], ◌∷◌, Option, None, Some, refl, sym, ◌∙◌, ap, subst, get_or, length, arith}
use Rattle.std.specs.Prelude.{◌↔◌, AllPairs, Contains, IsTrue, filter, find, map}
use Rattle.std.specs.List.{list_any}
use Rattle.std.specs.Str.{bytes_eq}
use Rattle.std.proofs.lemmas.Bool.{false≢true}
use Rattle.std.proofs.lemmas.List.{get_or_default}
use Rattle.std.proofs.lemmas.List.Elements.{All-contains}
use Rattle.elf_model.specs.Link.Loading.{LoadedObject}
use Rattle.elf_model.specs.Own.OwnLayout.{leaders}
use Rattle.elf_model.specs.Link.Pieces.{Piece, is_of_output, kept_sections, same_output}
use Rattle.elf_model.proofs.ChosenSymbols.{any_find}
use Rattle.elf_model.proofs.Finding.{find-found}
use Rattle.elf_model.proofs.Grouped.{AreOther, leaders_other}
use Rattle.elf_model.proofs.Listed.{Contains-cons_cases, Contains-from_filter, Contains-here, Contains-nil, Contains-there}
use Rattle.elf_model.proofs.Pairs.{AllPairs-head, AllPairs-tail, related}
use Rattle.elf_model.proofs.SameOutput.{alike, same_output-refl, same_output-sym, same_output-trans}
use Rattle.resolve.specs.OutputSections.{AreOutputSections, output_of, output_view}
use Rattle.resolve.specs.declared.output_sections.OutputSections.{OutputSections}
use Rattle.resolve.proofs.Leaders.{leaders_lead}
use Rattle.layout.specs.Mixed.{is_twice_from}

-- the next output section is taken in
pub twice_more :
    (here seen old rest whole new now : Bool) (from : Bool → Bool) → now ≡ (here || seen) → new ≡ ((here && seen) || old) →
    (old || ((here && seen) || from (here || seen))) ≡ whole → (new || from now) ≡ whole
twice_more here seen old rest whole new now from is_now is so_far =
    ap (λ b. b || from now) is ∙ ap (λ b. ((here && seen) || old) || from b) is_now ∙ turned (here && seen) old (from (here || seen)) ∙ so_far
  where
    turned : (a b c : Bool) → ((a || b) || c) ≡ (b || (a || c))
    turned true true c = refl
    turned true false c = refl
    turned false b c = refl

pub none_more : (b : Bool) → (b || false) ≡ b
none_more true = refl
none_more false = refl

-- an element that passes
found_any : (test : Piece → Bool) (ps : List Piece) → list_any test ps ≡ true → (p : Piece) × Contains ps p × (test p ≡ true)
found_any test ps any = by (find test ps) refl
  where
    by : (o : Option Piece) → find test ps ≡ o → (p : Piece) × Contains ps p × (test p ≡ true)
    by None e = absurd (any_find test ps any e)
    by (Some p) e = let f = find-found test ps p e in (p, f.there, f.passes)

any_there : (test : Piece → Bool) (ps : List Piece) (p : Piece) → Contains ps p → test p ≡ true → list_any test ps ≡ true
any_there test [] p there passes = absurd (Contains-nil p there)
any_there test (x ∷ xs) p there passes = by (Contains-cons_cases x xs p there) (any_there test xs p)
  where
    first : test x ≡ true → (test x || list_any test xs) ≡ true
    first e = ap (λ b. b || list_any test xs) e

    behind : (b : Bool) → list_any test xs ≡ true → (b || list_any test xs) ≡ true
    behind true e = refl
    behind false e = e

    by : (x ≡ p) ⊎ Contains xs p → (Contains xs p → test p ≡ true → list_any test xs ≡ true) → (test x || list_any test xs) ≡ true
    by (inl is) rest = first (ap test is ∙ passes)
    by (inr c) rest = behind (test x) (rest c passes)

-- a leader is a piece, and each piece has one
led_within : (ps : List Piece) (p : Piece) → Contains (leaders ps) p → Contains ps p
led_within [] p there = absurd (Contains-nil p there)
led_within (x ∷ xs) p there = by (Contains-cons_cases x (filter (λ q. not (same_output x q)) (leaders xs)) p there) (led_within xs p)
  where
    by : (x ≡ p) ⊎ Contains (filter (λ q. not (same_output x q)) (leaders xs)) p → (Contains (leaders xs) p → Contains xs p) → Contains (x ∷ xs) p
    by (inl is) rest = subst (Contains (x ∷ xs)) is (Contains-here xs x)
    by (inr c) rest = Contains-there x xs p (rest (Contains-from_filter (λ q. not (same_output x q)) (leaders xs) p c).0)

leader : (ps : List Piece) (p : Piece) → Contains ps p → (l : Piece) × Contains (leaders ps) l × (same_output l p ≡ true)
leader ps p there =
    found_any (λ l. same_output l p) (leaders ps)
    (leaders_lead ps p ∙ any_there (λ l. same_output l p) ps p there (same_output-refl p))

module _ (n : List ℕ) where
  -- a name that was seen comes twice where it comes
  seen_twice : (ls : List Piece) → is_twice_from n true (map output_of ls) ≡ list_any (is_of_output n) ls
  seen_twice [] = refl
  seen_twice (l ∷ ls) = by (is_of_output n l) (seen_twice ls)
    where
      by :
          (b : Bool) → is_twice_from n true (map output_of ls) ≡ list_any (is_of_output n) ls →
          ((b && true) || is_twice_from n (b || true) (map output_of ls)) ≡ (b || list_any (is_of_output n) ls)
      by true rest = refl
      by false rest = rest

  -- two of one name, where it comes twice
  record AreTwo (ls : List Piece) : Type 0 where
    one : Piece
    two : Piece
    one_there : Contains ls one
    two_there : Contains ls two
    one_named : is_of_output n one ≡ true
    two_named : is_of_output n two ≡ true
    other : same_output one two ≡ false

  found_two : (ls : List Piece) → AllPairs AreOther ls → is_twice_from n false (map output_of ls) ≡ true → AreTwo ls
  found_two [] others twice = absurd (false≢true twice)
  found_two (l ∷ ls) others twice = by (is_of_output n l) refl twice (found_two ls (AllPairs-tail AreOther l ls others))
    where
      by :
          (b : Bool) → is_of_output n l ≡ b → ((b && false) || is_twice_from n (b || false) (map output_of ls)) ≡ true →
          (is_twice_from n false (map output_of ls) ≡ true → AreTwo ls) → AreTwo (l ∷ ls)
      by true e t rest =
          let f = found_any (is_of_output n) ls (sym (seen_twice ls) ∙ t) in
          record {
            one = l;
            two = f.0;
            one_there = Contains-here ls l;
            two_there = Contains-there l ls f.0 f.1;
            one_named = e;
            two_named = f.2;
            other = All-contains (AreOther l) ls f.0 (AllPairs-head AreOther l ls others) f.1;
          }
      by false e t rest =
          let r = rest t in
          record {
            one = r.one;
            two = r.two;
            one_there = Contains-there l ls r.one r.one_there;
            two_there = Contains-there l ls r.two r.two_there;
            one_named = r.one_named;
            two_named = r.two_named;
            other = r.other;
          }

  -- and one alone, where it doesn't
  only_one : (ls : List Piece) → is_twice_from n false (map output_of ls) ≡ false → (p q : Piece) → Contains ls p → Contains ls q → is_of_output n p ≡ true → is_of_output n q ≡ true → p ≡ q
  only_one [] once p q a b s t = absurd (Contains-nil p a)
  only_one (l ∷ ls) once p q a b s t =
      by (is_of_output n l) refl once (Contains-cons_cases l ls p a) (Contains-cons_cases l ls q b) (λ o c d. only_one ls o p q c d s t)
    where
      none_behind : is_twice_from n true (map output_of ls) ≡ false → (r : Piece) → Contains ls r → is_of_output n r ≡ true → ⊥
      none_behind o r c named = false≢true (sym o ∙ (seen_twice ls ∙ any_there (is_of_output n) ls r c named))

      by :
          (e : Bool) → is_of_output n l ≡ e → ((e && false) || is_twice_from n (e || false) (map output_of ls)) ≡ false →
          (l ≡ p) ⊎ Contains ls p → (l ≡ q) ⊎ Contains ls q → (is_twice_from n false (map output_of ls) ≡ false → Contains ls p → Contains ls q → p ≡ q) → p ≡ q
      by e is o (inl f) (inl g) rest = sym f ∙ g
      by true is o (inr c) d rest = absurd (none_behind o p c s)
      by true is o (inl f) (inr d) rest = absurd (none_behind o q d t)
      by false is o (inl f) d rest = absurd (false≢true (sym is ∙ (ap (is_of_output n) f ∙ s)))
      by false is o (inr c) (inl g) rest = absurd (false≢true (sym is ∙ (ap (is_of_output n) g ∙ t)))
      by false is o (inr c) (inr d) rest = rest o c d

  abbrev Same : Piece → Piece → Type 0
  Same p q = is_of_output n p ≡ true → is_of_output n q ≡ true → same_output p q ≡ true

  module _ (ps : List Piece) where
    not_same : AreTwo (leaders ps) → AllPairs Same ps → ⊥
    not_same two pairs =
        by (related Same ps two.one two.two pairs (led_within ps two.one two.one_there) (led_within ps two.two two.two_there))
      where
        by : (two.one ≡ two.two) ⊎ (Same two.one two.two ⊎ Same two.two two.one) → ⊥
        by (inl is) = false≢true (sym two.other ∙ subst (λ (x : Piece). same_output two.one x ≡ true) is (same_output-refl two.one))
        by (inr (inl r)) = false≢true (sym two.other ∙ r two.one_named two.two_named)
        by (inr (inr r)) = false≢true (sym two.other ∙ same_output-sym two.two two.one (r two.two_named two.one_named))

    same_two : is_twice_from n false (map output_of (leaders ps)) ≡ false → (p q : Piece) → Contains ps p → Contains ps q → Same p q
    same_two once p q a b s t =
        let l = leader ps p a in
        let m = leader ps q b in
        let named = λ (x y : Piece) (e : same_output x y ≡ true) (u : is_of_output n y ≡ true). ap (λ (k : List ℕ). bytes_eq k n) (alike x y e).name ∙ u in
        let one : l.0 ≡ m.0 = only_one (leaders ps) once l.0 m.0 l.1 m.1 (named l.0 p l.2 s) (named m.0 q m.2 t) in
        same_output-trans p l.0 q (same_output-sym l.0 p l.2) (subst (λ (x : Piece). same_output x q ≡ true) (sym one) m.2)

    at_index : (i : ℕ) (d : Piece) → i < length ps → Contains ps (get_or ps i d)
    at_index i d within = (i, within, get_or_default ps i (get_or ps i d) d within)

    told : (b : Bool) → b ≡ is_twice_from n false (map output_of (leaders ps)) → IsTrue b ↔ (¬ AllPairs Same ps)
    told true is = (λ t pairs. not_same (found_two (leaders ps) (leaders_other ps) (sym is)) pairs, λ different. refl)
    told false is = (
      λ t. absurd (false≢true t),
      λ different. absurd (different (λ i j d low high.
          same_two (sym is) (get_or ps i d) (get_or ps j d) (at_index i d (let h = high in omega (arith, low, h))) (at_index j d high))),
    )

  pub mixed :
      (objects : List LoadedObject) (o : OutputSections) → AreOutputSections objects o → (b : Bool) → b ≡ is_twice_from n false (map output_view o.sections.items) →
      IsTrue b ↔ (¬ AllPairs Same (kept_sections objects))
  mixed objects o are b is =
      told (kept_sections objects) b (is ∙ ap (is_twice_from n false) are.sections_are)
