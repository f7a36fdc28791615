-- Memory of a gap, by what is read of it; and the gaps of a segment, one more at a time.
use Rattle.std.proofs.Common.{◌≡◌, ℕ, ◌+◌, ◌-◌, ◌<◌, ◌≤◌, ◌⊎◌, inl, inr, Bool, true, false, cond, List, [], ◌∷◌, length, get_or, drop, refl, sym, subst, ap, ◌∙◌, arith}
use Rattle.std.specs.Prelude.{◌↔◌, All, Any, Contains, IsTrue, Some, max, min, nat_lt, option_map, slice_index}
use Rattle.std.proofs.lemmas.Bool.{false≢true, le-ltb, lt-ltb}
use Rattle.std.proofs.lemmas.List.{drop_all, ext_get_or}
use Rattle.std.proofs.lemmas.List.Elements.{All-cons, All-head, All-nil, All-tail}
use Rattle.std.proofs.lemmas.Option.{same_Some}
use Rattle.code_fill.proofs.Padding.{length-padded, padded_at}
use Rattle.code_fill.specs.Padded.{padded}
use Rattle.elf_model.proofs.Finding.{Any-from_contains}
use Rattle.elf_model.proofs.Rests.{Left, rest_at}
use Rattle.elf_model.specs.Image.MemoryImage.{Encloses, loads}
use Rattle.elf_model.specs.declared.records.ProgramHeader.{ProgramHeader}
use Rattle.judge_model.specs.Fill.{is_executed}
use Rattle.judge_model.specs.Memory.{Holds}
use Rattle.loader_model.specs.Memory.{IsRun}
use Rattle.memory_judge.specs.Spans.{IsInSpan, span, with_span}
use Rattle.memory_judge.specs.declared.spans.Span.{Span}
use Rattle.gap_judge.specs.Fill.{HoldsFill, HoldsFillIn, IsFill}
use Rattle.gap_judge.specs.Gaps.{gaps}

-- what is read of memory is what it holds, and no other bytes are
module _ (image : List ℕ) (runs : List Span) (h : ProgramHeader) (from to : ℕ) (bytes : List ℕ) (zeros : ℕ) (read : IsRun image from (to - from) bytes zeros) where
  own : List ℕ
  own = padded bytes zeros

  long : length (padded bytes zeros) ≡ to - from
  long = let n = length-padded bytes zeros in let w = read.whole in omega (arith, n, w)

  held : Holds image from (padded bytes zeros)
  held k low = read.same k (let n = long in omega (arith, n, low)) ∙ ap Some (sym (padded_at bytes zeros k))

  only : (others : List ℕ) → length others ≡ to - from → Holds image from others → others ≡ padded bytes zeros
  only others n holds =
      ext_get_or 0 others (padded bytes zeros) (let l = long in omega (arith, n, l))
      (λ k low. let l = long in same_Some (slice_index others k) (slice_index (padded bytes zeros) k) (sym (holds k low) ∙ held k (omega (arith, n, l, low))))

  pub filled_by :
      (executed through b : Bool) → executed ≡ is_executed h → IsTrue through ↔ Any (IsInSpan from) runs →
      IsTrue b ↔ IsFill executed (through ≡ true) (padded bytes zeros) → IsTrue b ↔ HoldsFill image runs h from to
  filled_by executed through b is told fill = (
    λ e.
        let f = fill.0 e in
        record {
          bytes = padded bytes zeros;
          long = long;
          holds = held;
          fill = record {
            zeros = λ never. f.zeros (is ∙ never);
            code = λ may. f.code (is ∙ may);
            run = λ any. f.run (told.1 any);
          };
        },
    λ holds.
        let f = subst (IsFill (is_executed h) (Any (IsInSpan from) runs)) (only holds.bytes holds.long holds.holds) holds.fill in
        fill.1
        (record {
          zeros = λ never. f.zeros (sym is ∙ never);
          code = λ may. f.code (sym is ∙ may);
          run = λ e. f.run (told.0 e);
        }),
  )

-- a segment has what lies between two of its addresses
pub enclosed_there :
    (image : List ℕ) (h : ProgramHeader) (from to : ℕ) → Contains (loads image) h → from < to → (h.p_vaddr ≤ from) × (to ≤ h.p_vaddr + h.p_memsz) →
    Any (λ g. Encloses g from (to - from)) (loads image)
enclosed_there image h from to there some inside =
    Any-from_contains (λ (g : ProgramHeader). Encloses g from (to - from)) (loads image) h there (let a = inside.0 in let b = inside.1 in (a, omega (arith, b, some)))

-- a gap that may be empty
pub if_any :
    (P : Span → Type 0) (from to : ℕ) (b : Bool) → from < to → IsTrue b ↔ P (span from to) → IsTrue b ↔ All P (with_span from to [])
if_any P from to b some told =
    subst (λ (t : Bool). IsTrue b ↔ All P (cond t (span from to ∷ []) [])) (sym (lt-ltb from to some))
    (λ e. All-cons P (span from to) [] (told.0 e) (All-nil P), λ all. told.1 (All-head P (span from to) [] all))

pub none_between : (P : Span → Type 0) (from to : ℕ) → to ≤ from → All P (with_span from to [])
none_between P from to low = subst (λ (t : Bool). All P (cond t (span from to ∷ []) [])) (sym (le-ltb from to low)) (All-nil P)

-- one span more is passed
module _ (Q : Type 0) (P : Span → Type 0) (from top : ℕ) (spans : List Span) (i : ℕ) (d : Span) (within : i < length spans) (left : Left Q (All P (gaps from top (drop i spans)))) where
  parts : (a b : ℕ) (ss : List Span) → All P (with_span a b ss) ↔ (All P (with_span a b []) × All P ss)
  parts a b ss = by (nat_lt a b)
    where
      by : (t : Bool) → All P (cond t (span a b ∷ ss) ss) ↔ (All P (cond t (span a b ∷ []) []) × All P ss)
      by true = (
        λ all. (All-cons P (span a b) [] (All-head P (span a b) ss all) (All-nil P), All-tail P (span a b) ss all),
        λ both. All-cons P (span a b) ss (All-head P (span a b) [] both.0) both.1,
      )
      by false = (λ all. (All-nil P, all), λ both. both.1)

  s : Span
  s = get_or spans i d

  abbrev Both : Type 0
  Both = All P (with_span from (min (get_or spans i d).from top) []) × All P (gaps (max from (get_or spans i d).to) top (drop (i + 1) spans))

  both_left : Left Q Both
  both_left =
      let front = subst (λ (ss : List Span). Left Q (All P (gaps from top ss))) (rest_at spans i d within) left in
      let both = parts from (min (get_or spans i d).from top) (gaps (max from (get_or spans i d).to) top (drop (i + 1) spans)) in
      (λ q. both.0 (front.0 q), λ h. front.1 (both.1 h))

  pub gap_more : All P (with_span from (min (get_or spans i d).from top) []) → Left Q (All P (gaps (max from (get_or spans i d).to) top (drop (i + 1) spans)))
  gap_more here = (λ q. (both_left.0 q).1, λ rest. both_left.1 (here, rest))

  pub gap_stop : (All P (with_span from (min (get_or spans i d).from top) []) → ⊥) → Q → ⊥
  gap_stop never q = never (both_left.0 q).0

pub gap_end :
    (Q : Type 0) (P : Span → Type 0) (from top : ℕ) (spans : List Span) (i : ℕ) (b : Bool) → length spans ≤ i →
    Left Q (All P (gaps from top (drop i spans))) → IsTrue b ↔ All P (with_span from top []) → IsTrue b ↔ Q
gap_end Q P from top spans i b behind left told =
    let end = subst (λ (ss : List Span). Left Q (All P (gaps from top ss))) (drop_all i spans behind) left in
    (λ e. end.1 (told.0 e), λ q. told.1 (end.0 q))
