-- Sections that take up memory lie whole in segments where each that does so lies in one with its rights.
use Rattle.std.proofs.Common.{◌≡◌, ℕ, ◌<◌, ◌⊎◌, inl, inr, Bool, true, false, cond, List, subst, arith}
use Rattle.std.specs.Prelude.{All, Any}
use Rattle.std.proofs.lemmas.Bool.{cases_Bool}
use Rattle.std.proofs.lemmas.List.Elements.{All-weaker}
use Rattle.elf_model.specs.Image.MemoryImage.{Encloses, loads}
use Rattle.elf_model.specs.Link.Pieces.{is_thread_zero, load_size}
use Rattle.elf_model.specs.Link.Placement.{Placed}
use Rattle.judge_model.specs.Placed.{HasPlace, LiesIn}
use Rattle.link_fields.specs.Rests.{LiesWhole}

module _ (image : List ℕ) (q : Placed) (lies : is_thread_zero q.piece ≡ false → HasPlace (loads image) q) where
  enclosed : LiesIn (loads image) q → Any (λ h. Encloses h q.at (load_size q.piece)) (loads image)
  enclosed (i, h, low, is, (inside, rights)) = (i, h, low, is, inside)

  none_there : (b : Bool) → b ≡ true → 0 < cond b 0 q.piece.size → ⊥
  none_there b e some = let zero = subst (λ (t : Bool). 0 < cond t 0 q.piece.size) e some in omega (arith, zero)

  of_place : HasPlace (loads image) q → 0 < load_size q.piece → Any (λ h. Encloses h q.at (load_size q.piece)) (loads image)
  of_place (inl there) some = enclosed there
  of_place (inr empty) some = absurd (omega (arith, empty.0, some))

  lies_whole : LiesWhole image q
  lies_whole = record { encloses = λ some. by (cases_Bool (is_thread_zero q.piece)) some }
    where
      by : (is_thread_zero q.piece ≡ true) ⊎ (is_thread_zero q.piece ≡ false) → 0 < load_size q.piece → Any (λ h. Encloses h q.at (load_size q.piece)) (loads image)
      by (inl zeros) some = absurd (none_there (is_thread_zero q.piece) zeros some)
      by (inr other) some = of_place (lies other) some

pub lie_whole :
    (image : List ℕ) (qs : List Placed) → All (λ q. is_thread_zero q.piece ≡ false → HasPlace (loads image) q) qs → All (LiesWhole image) qs
lie_whole image qs all =
    All-weaker (λ (q : Placed). is_thread_zero q.piece ≡ false → HasPlace (loads image) q) (LiesWhole image) (λ q lies. lies_whole image q lies) qs all
