-- Objects that the command names, in its order: a loop over lines keeps the last of them.
use Rattle.std.proofs.Common.{◌≡◌, ℕ, ◌+◌, ◌<◌, ◌≤◌, inl, inr, true, false, List, ◌∷◌, Option, None, Some, ap, arith, drop, get_or, length, map, subst, sym, ◌∙◌}
use Rattle.std.specs.Prelude.{AllPairs, IfSome}
use Rattle.std.proofs.lemmas.Bool.{false≢true}
use Rattle.std.proofs.lemmas.List.{at_drop_all, at_drop_more}
use Rattle.std.proofs.lemmas.List.Elements.{All-cons, All-head, All-nil, All-tail, All-weaker}
use Rattle.std.proofs.lemmas.List.Kept.{AllPairs-cons}
use Rattle.elf_model.specs.Inputs.Opening.{Opened}
use Rattle.elf_model.specs.declared.link_map.ObjectLine.{ObjectLine}
use Rattle.elf_model.proofs.Pairs.{AllPairs-head, AllPairs-nil, AllPairs-tail}
use Rattle.elf_model.proofs.Rests.{Left}
use Rattle.judge_model.specs.Loaded.{Origin}
use Rattle.order_judge.specs.Origins.{origin_of_line, origin_of_pair}
use Rattle.order_judge.specs.Turns.{AreInTurnBehind, AreOriginsInTurn, IsBefore, IsNamedBehind, is_named_at}

before_trans : (a b c : Origin) → IsBefore a b → IsBefore b c → IsBefore a c
before_trans a b c (inl p) (inl q) = inl (omega (arith, p, q))
before_trans a b c (inl p) (inr q) = let e = q.0 in inl (omega (arith, p, e))
before_trans a b c (inr p) (inl q) = let e = p.0 in inl (omega (arith, e, q))
before_trans a b c (inr p) (inr q) = let n = p.1 in let m = q.1 in inr (p.0 ∙ q.0, omega (arith, n, m))

module _ (os : List Opened) where
  abbrev InTurn : Option (ℕ × ℕ) → List Origin → Type 0
  InTurn last origins = AreInTurnBehind os last origins

  R : Origin → Origin → Type 0
  R = AreOriginsInTurn os

  -- one that the command doesn't name
  skip : (last : Option (ℕ × ℕ)) (b : Origin) (rest : List Origin) → is_named_at os b.item ≡ false → Left (InTurn last (b ∷ rest)) (InTurn last rest)
  unfolding R
  skip last b rest unnamed = (
    λ h. record { behind = All-tail (IsNamedBehind os last) b rest h.behind; pairs = AllPairs-tail R b rest h.pairs },
    λ h. record {
      behind = All-cons (IsNamedBehind os last) b rest (λ named. absurd (false≢true (sym unnamed ∙ named))) h.behind;
      pairs =
          AllPairs-cons R b rest
          (All-weaker (IsNamedBehind os last) (R b) (λ c behind named. absurd (false≢true (sym unnamed ∙ named))) rest h.behind) h.pairs;
    },
  )

  -- one that it names is the last one then
  next :
      (last : Option (ℕ × ℕ)) (b : Origin) (rest : List Origin) → is_named_at os b.item ≡ true → IfSome last (λ a. IsBefore (origin_of_pair a) b) →
      Left (InTurn last (b ∷ rest)) (InTurn (Some (b.item, b.offset)) rest)
  unfolding R
  next last b rest named before = (
    λ h. record {
      behind = All-weaker (R b) (IsNamedBehind os (Some (b.item, b.offset))) (λ c r named_c. r named named_c) rest (AllPairs-head R b rest h.pairs);
      pairs = AllPairs-tail R b rest h.pairs;
    },
    λ h. record {
      behind =
          All-cons (IsNamedBehind os last) b rest (λ n. before)
          (All-weaker (IsNamedBehind os (Some (b.item, b.offset))) (IsNamedBehind os last) (λ c behind named_c. later last before c (behind named_c)) rest h.behind);
      pairs =
          AllPairs-cons R b rest
          (All-weaker (IsNamedBehind os (Some (b.item, b.offset))) (R b) (λ c behind n named_c. behind named_c) rest h.behind) h.pairs;
    },
  )
    where
      later : (l : Option (ℕ × ℕ)) → IfSome l (λ a. IsBefore (origin_of_pair a) b) → (c : Origin) → IsBefore b c → IfSome l (λ a. IsBefore (origin_of_pair a) c)
      later None p c q = tt
      later (Some a) p c q = before_trans (origin_of_pair a) b c p q

  -- A loop over lines.

  module _ (Q : Type 0) (lines : List ObjectLine) (i : ℕ) (row : ObjectLine) (low : i < length lines) (is : row ≡ get_or lines i row) (last : Option (ℕ × ℕ)) (q : Left Q (InTurn last (map origin_of_line (drop i lines)))) where
    b : Origin
    b = origin_of_line row

    rest : List Origin
    rest = map origin_of_line (drop (i + 1) lines)

    here : map origin_of_line (drop i lines) ≡ b ∷ rest
    unfolding b rest
    here = at_drop_more (map origin_of_line) lines i row low ∙ ap (λ (r : ObjectLine). origin_of_line r ∷ map origin_of_line (drop (i + 1) lines)) (sym is)

    now : Left Q (InTurn last (b ∷ rest))
    now = (λ h. subst (InTurn last) here (q.0 h), λ r. q.1 (subst (InTurn last) (sym here) r))

    pub turn_skips : is_named_at os row.item ≡ false → Left Q (InTurn last (map origin_of_line (drop (i + 1) lines)))
    unfolding b rest
    turn_skips unnamed = let s = skip last b rest unnamed in (λ h. s.0 (now.0 h), λ r. now.1 (s.1 r))

    pub turn_goes :
        is_named_at os row.item ≡ true → IfSome last (λ a. IsBefore (origin_of_pair a) (origin_of_line row)) →
        Left Q (InTurn (Some (row.item, row.offset)) (map origin_of_line (drop (i + 1) lines)))
    unfolding b rest
    turn_goes named before = let s = next last b rest named before in (λ h. s.0 (now.0 h), λ r. now.1 (s.1 r))

    pub turn_stops :
        is_named_at os row.item ≡ true → (IfSome last (λ a. IsBefore (origin_of_pair a) (origin_of_line row)) → ⊥) → Q → ⊥
    unfolding b rest
    turn_stops named never h = never (All-head (IsNamedBehind os last) b rest (now.0 h).behind named)

  pub turn_ends : (Q : Type 0) (lines : List ObjectLine) (i : ℕ) (last : Option (ℕ × ℕ)) → length lines ≤ i → Left Q (InTurn last (map origin_of_line (drop i lines))) → Q
  turn_ends Q lines i last behind q =
      q.1 (subst (InTurn last) (sym (at_drop_all (map origin_of_line) lines i behind))
      (record { behind = All-nil (IsNamedBehind os last); pairs = AllPairs-nil (AreOriginsInTurn os) }))

  pub turn_begins : (lines : List ObjectLine) → Left (AllPairs (AreOriginsInTurn os) (map origin_of_line lines)) (InTurn None (map origin_of_line lines))
  turn_begins lines = (λ pairs. record { behind = λ k d low named. tt; pairs = pairs }, λ h. h.pairs)
