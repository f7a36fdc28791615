-- The block of thread-local storage from what is asked of the code's own pieces and of the headers.
use Rattle.std.proofs.Common.{arith, refl, subst, sym}
use Rattle.std.specs.Prelude.{◌≡◌, ◌↔◌, ◌≤◌, ◌==◌, ℕ, Bool, true, false, not, List, [], ◌∷◌, All, Any, length}
use Rattle.std.proofs.lemmas.Bool.{eqb-true, false≢true}
use Rattle.std.proofs.lemmas.List.Elements.{All-head, All-map, All-weaker}
use Rattle.elf_model.proofs.Finding.{Any-from_contains, Any-here}
use Rattle.elf_model.proofs.Listed.{All-unmap, Contains-from_map, Contains-map}
use Rattle.elf_model.specs.Link.Pieces.{is_thread_zero}
use Rattle.elf_model.specs.Link.Placement as placement
use Rattle.elf_model.specs.declared.records.ProgramHeader.{ProgramHeader}
use Rattle.check_link.specs.Views.{placed_view, placed_views}
use Rattle.check_link.specs.declared.things.Placed.{Placed}
use Rattle.judge_model.specs.ThreadBlocks.{is_some_thread}
use Rattle.thread_judge.specs.Parts.{IsBehind, IsSome}

-- pieces without bytes, as the definition and as the code asks of them
abbrev pub Before : ℕ → placement.Placed → Type 0
Before end q = is_thread_zero q.piece ≡ true → end ≤ q.at

pub behind : (end : ℕ) (xs : List Placed) → All (λ q. IsBehind end (placed_view q)) xs ↔ All (Before end) (placed_views xs)
behind end xs = (
  λ all. All-map (Before end) placed_view xs (All-weaker (λ q. IsBehind end (placed_view q)) (λ q. Before end (placed_view q)) (λ q b. b.behind) xs all),
  λ all.
      All-weaker (λ q. Before end (placed_view q)) (λ q. IsBehind end (placed_view q)) (λ q b. record { behind = b }) xs
      (All-unmap (Before end) placed_view xs all),
)

-- pieces that aren't empty
pub some : (xs : List Placed) → Any (λ q. IsSome (placed_view q)) xs ↔ Any (λ q. is_some_thread q.piece ≡ true) (placed_views xs)
some xs = (to, from)
  where
    to : Any (λ q. IsSome (placed_view q)) xs → Any (λ q. is_some_thread q.piece ≡ true) (placed_views xs)
    to (i, x, low, is, p) =
        Any-from_contains (λ (q : placement.Placed). is_some_thread q.piece ≡ true) (placed_views xs) (placed_view x)
        (Contains-map placed_view xs x (i, low, is)) p.some

    from : Any (λ q. is_some_thread q.piece ≡ true) (placed_views xs) → Any (λ q. IsSome (placed_view q)) xs
    from (i, y, low, is, p) =
        let m = Contains-from_map placed_view xs y (i, low, is) in
        Any-from_contains (λ (q : Placed). IsSome (placed_view q)) xs m.of m.there
        (record { some = subst (λ (q : placement.Placed). is_some_thread q.piece ≡ true) (sym m.is) p })

-- where each header is right and there is one, one is right
pub any_header : (P : ProgramHeader → Type 0) (hs : List ProgramHeader) → (length hs == 0) ≡ false → All P hs → Any P hs
any_header P [] n all = absurd (false≢true (sym n))
any_header P (h ∷ hs) n all = Any-here P h hs (All-head P h hs all)

pub no_header : (P : ProgramHeader → Type 0) (hs : List ProgramHeader) → (length hs == 0) ≡ true → Any P hs → ⊥
no_header P hs n (i, h, low, is, p) = let z = eqb-true (length hs) 0 n in omega (arith, z, low)

pub never_true : (b : Bool) → not b ≡ true → b ≡ true → ⊥
never_true true t e = false≢true t
never_true false t e = false≢true e

pub not_of : (b : Bool) → (b ≡ true → ⊥) → not b ≡ true
not_of true never = absurd (never refl)
not_of false never = refl
