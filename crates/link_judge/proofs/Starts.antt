-- The words that place are kept, as told of lists that are the link's.
use Rattle.std.proofs.Common.{◌≡◌, ℕ, Bool, List, Option, map, subst, sym}
use Rattle.std.proofs.lemmas.List.Elements.{All-map}
use Rattle.std.specs.Prelude.{◌↔◌, All, IfSome, IsTrue}
use Rattle.elf_model.proofs.Listed.{All-unmap}
use Rattle.elf_model.specs.Image.MemoryImage.{first_address, loads}
use Rattle.elf_model.specs.Link.Placement.{Placed}
use Rattle.elf_model.specs.declared.records.ProgramHeader.{ProgramHeader}
use Rattle.judge_model.specs.Links.{ForeignLink, placed_of}
use Rattle.judge_model.specs.Placed.{StartsRight}
use Rattle.place_judge.specs.Places.{StartsAt, start_view}
use Rattle.place_judge.specs.declared.starts.Start as told
use Rattle.link_judge.specs.Placed.{KeepsStarts}

module _ (l : ForeignLink) (hs : List ProgramHeader) (qs : List Placed) (ss : List told.Start) where
  pub kept :
      (address : Option ℕ)
      → address ≡ l.plan.segment
      → hs ≡ loads l.image
      → qs ≡ placed_of l
      → map start_view ss ≡ l.plan.starts
      → IfSome address (λ a. first_address hs ≡ a)
      → (b : Bool)
      → (IsTrue b ↔ All (λ s. StartsAt qs (start_view s)) ss)
      → (IsTrue b ↔ KeepsStarts l)
  kept address segment memory placed starts begins b right =
      let begun : IfSome l.plan.segment (λ a. first_address (loads l.image) ≡ a) =
      subst (λ (gs : List ProgramHeader). IfSome l.plan.segment (λ a. first_address gs ≡ a)) memory
      (subst (λ (o : Option ℕ). IfSome o (λ a. first_address hs ≡ a)) segment begins) in
      let both : IsTrue b ↔ All (λ s. StartsAt (placed_of l) (start_view s)) ss =
      subst (λ (ps : List Placed). IsTrue b ↔ All (λ s. StartsAt ps (start_view s)) ss) placed right in (
        λ yes. record {
          segment = begun;
          starts = subst (All (StartsRight l)) starts (All-map (StartsRight l) start_view ss (both.0 yes));
        },
        λ k. both.1 (All-unmap (StartsRight l) start_view ss (subst (All (StartsRight l)) (sym starts) k.starts)),
      )
