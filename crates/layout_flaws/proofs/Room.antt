-- Where the own layout isn't too large, no kept section is so by itself.
use Rattle.std.proofs.Common.{◌≡◌, ◌∙◌, ◌≤◌, ◌^◌, inl, inr, ℕ, ◌+◌, List, [], ◌∷◌, ◌++◌, arith, subst, sym}
use Rattle.std.specs.Prelude.{All, Contains}
use Rattle.std.proofs.lemmas.List.Elements.{All-append, All-contains, All-head, All-tail, All-weaker, Contains-append_left}
use Rattle.elf_model.proofs.Listed.{All-from_contains, Contains-from_map}
use Rattle.elf_model.proofs.OwnOrder.{to_own_order}
use Rattle.elf_model.proofs.Places.{InCode, InData, InReadOnly, InThreadRest, initial_aligned, own_code_within, own_data_within, own_placed_pieces, own_read_only_within, own_starts, own_thread_rest_within, thread_start_high}
use Rattle.elf_model.proofs.Running.{end_of-ge}
use Rattle.elf_model.specs.Link.Commons.{block_pieces, pieces}
use Rattle.elf_model.specs.Link.Loading.{LoadedObject}
use Rattle.elf_model.specs.Link.Pieces.{Piece, kept_sections}
use Rattle.elf_model.specs.Link.Placement.{Placed}
use Rattle.elf_model.specs.Own.OwnLayout.{IsNotTooLarge, got_pieces, initial_pieces, own_code, own_data, own_loaded, own_placed, own_read_only, own_thread_rest, placed_end, thread_start}
use Rattle.flaws.specs.Flaws.{AreAdded}
use Rattle.layout.specs.Placements.{Basis}
use Rattle.layout_flaws.specs.LayoutFlaws.{AddsLarge, AreLargeSections}
use Rattle.layout_flaws.specs.declared.flaw.LayoutFlaw.{LayoutFlaw}

module _ (base : ℕ) (objects : List LoadedObject) where
  -- no piece has a place below the base
  abbrev IsHigh : Placed → Type 0
  IsHigh q = base ≤ q.at

  all_high : All IsHigh (own_placed base objects)
  all_high =
      let starts = own_starts base objects in
      let threads = thread_start_high base objects in
      let behind = end_of-ge (thread_start base objects) (initial_pieces objects) (initial_aligned objects) in
      All-append IsHigh (own_loaded base objects) (own_thread_rest base objects)
      (All-append IsHigh (own_read_only base objects) (own_code base objects ++ own_data base objects)
      (All-weaker (InReadOnly base objects) IsHigh (λ q at. omega (arith, at)) (own_read_only base objects) (own_read_only_within base objects))
      (All-append IsHigh (own_code base objects) (own_data base objects)
      (All-weaker (InCode base objects) IsHigh (λ q at. omega (arith, at, starts)) (own_code base objects) (own_code_within base objects))
      (All-weaker (InData base objects) IsHigh (λ q at. omega (arith, at, starts)) (own_data base objects) (own_data_within base objects))))
      (All-weaker (InThreadRest base objects) IsHigh (λ q at. omega (arith, at, starts, threads, behind)) (own_thread_rest base objects) (own_thread_rest_within base objects))

  -- so a piece that ends within the addresses would do so from the base on
  abbrev IsSmall : Piece → Type 0
  IsSmall p = base + p.size ≤ 2 ^ 46

  all_small : IsNotTooLarge base objects → All IsSmall (kept_sections objects)
  all_small fits =
      All-from_contains IsSmall (kept_sections objects) (λ p c.
      let laid = Contains-append_left (pieces objects) (got_pieces objects) p (Contains-append_left (kept_sections objects) (block_pieces objects) p c) in
      let placed = Contains-from_map (λ (q : Placed). q.piece) (own_placed base objects) p
      (subst (λ (ps : List Piece). Contains ps p) (sym (own_placed_pieces base objects)) (to_own_order objects p laid)) in
      let high = All-contains IsHigh (own_placed base objects) placed.of all_high placed.there in
      let end = All-contains (λ (q : Placed). placed_end q ≤ 2 ^ 46) (own_placed base objects) placed.of fits.ends placed.there in
      subst IsSmall placed.is (omega (arith, high, end)))

  none_added : (ps : List Piece) (s t : List LayoutFlaw) → All IsSmall ps → AreAdded (AddsLarge base) ps s t → t ≡ s
  none_added [] s t all same = same
  none_added (p ∷ ps) s t all added =
      let first = All-head IsSmall p ps all in
      let rest = none_added ps added.0 t (All-tail IsSmall p ps all) added.2 in
      elim added.1 as (λ _. t ≡ s) [
        | inl small ↦ rest ∙ small.1
        | inr large ↦ absurd (let much = large.0 in omega (arith, first, much))
      ]

pub no_large : (b : Basis) (flaws : List LayoutFlaw) → IsNotTooLarge b.base b.objects → AreLargeSections b flaws → flaws ≡ []
no_large b flaws fits are = none_added b.base b.objects (kept_sections b.objects) [] flaws (all_small b.base b.objects fits) are
