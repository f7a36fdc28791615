-- The addresses that things take up, as spans that stand apart.
use Rattle.std.specs.Prelude.{◌↔◌, ℕ, ◌+◌, ◌-◌, ◌^◌, ◌<◌, ◌≤◌, List, [], ◌∷◌, All, AllPairs, Any, cond, max, min, nat_le, nat_lt}
use Rattle.elf_model.specs.Link.Placement.{Covers}
use Rattle.elf_model.specs.declared.thing.Thing.{Thing}
use Rattle.memory_judge.specs.declared.spans.Span.{Span}

abbrev pub IsInSpan : ℕ → Span → Type 0
IsInSpan a s = (s.from ≤ a) × (a < s.to)

-- an address past all that is looked at, and where a thing ends, as far as that
abbrev pub far : ℕ
far = 2 ^ 64 - 1

abbrev pub end_of : Thing → ℕ
end_of t = min (t.at + t.size) far

-- a span in front of others, where it has anything
abbrev pub span : ℕ → ℕ → Span
span from to = record { from = from; to = to }

abbrev pub with_span : ℕ → ℕ → List Span → List Span
with_span from to ss = cond (nat_lt from to) (span from to ∷ ss) ss

-- a span that is open and things that begin in it, at its end or behind: those that it reaches lengthen it
abbrev pub merged : ℕ → ℕ → List Thing → List Span
merged from to [] = with_span from to []
merged from to (t ∷ ts) =
    cond (nat_le t.at to) (merged from (max to (end_of t)) ts) (with_span from to (merged t.at (end_of t) ts))

-- a span ends before another one, with something in between
abbrev pub IsSpanBefore : Span → Span → Type 0
IsSpanBefore s u = s.to < u.from

-- spans have the addresses that things take up, each has some, and they rise apart
pub record AreSpansOf (things : List Thing) (spans : List Span) : Type 0 where
  pub covers : (a : ℕ) → a < far → Any (IsInSpan a) spans ↔ Any (λ t. Covers t a) things
  pub some : All (λ s. s.from < s.to) spans
  pub rising : AllPairs IsSpanBefore spans
  pub low : All (λ s. s.to ≤ far) spans
