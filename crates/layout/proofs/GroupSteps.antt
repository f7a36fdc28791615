-- Gathering pieces by output section, one more piece at a time.
use Rattle.std.proofs.Common.{◌≡◌, ℕ, zero, suc, ◌+◌, ◌<◌, true, List, [], ◌∷◌, ◌++◌, get_or, set, take, length, refl, sym, ◌∙◌, ap, arith}
use Rattle.std.specs.Prelude.{Option, None, Some, map, option_map, replicate}
use Rattle.std.specs.Borrow.{Bor}
use Rattle.std.specs.Global.{Vec}
use Rattle.std.specs.List.{slice_get}
use Rattle.std.proofs.lemmas.List.{get_or-map, length-map, map-append, take_more}
use Rattle.std.proofs.lemmas.Option.{none-some, same_Some, slice_get-map, slice_get_within}
use Rattle.elf_model.specs.Own.OwnLayout.{leaders}
use Rattle.elf_model.specs.Link.Pieces as pieces
use Rattle.elf_model.specs.Link.Pieces.{same_output}
use Rattle.elf_model.proofs.Grouped.{leaders_other}
use Rattle.resolve.specs.OutputSections.{AreOutputsOf, Output, output_at, output_of, output_view}
use Rattle.resolve.specs.declared.output_sections.OutputSection.{OutputSection}
use Rattle.resolve.proofs.OutputSteps.{same_output_of}
use Rattle.layout.specs.Groups.{group, group_views, put_at}
use Rattle.placing.specs.Views.{borrowed_view, borrowed_views}
use Rattle.placing.specs.declared.piece.Piece.{Piece}
use Rattle.layout.proofs.Leading.{put_at_leader}

-- one more piece in a group
pub group_written :
    (groups : List (Vec (Bor Piece))) (i : ℕ) (d g : Vec (Bor Piece)) (p : Bor Piece) → g.items ≡ (get_or groups i d).items ++ p ∷ [] →
    group_views (set groups i g) ≡ put_at (group_views groups) i (borrowed_view p)
group_written [] i d g p grown = refl
group_written (h ∷ groups) zero d g p grown =
    ap (λ (ps : List pieces.Piece). ps ∷ group_views groups) (ap borrowed_views grown ∙ map-append borrowed_view h.items (p ∷ []))
group_written (h ∷ groups) (suc i) d g p grown =
    ap (λ (gs : List (List pieces.Piece)). borrowed_views h.items ∷ gs) (group_written groups i d g p grown)

-- groups without pieces are those of no pieces
pub empties : (ls : List pieces.Piece) (n : ℕ) → n ≡ length ls → replicate n [] ≡ map (group []) ls
empties [] zero is = refl
empties [] (suc n) is = absurd (omega (arith, is))
empties (l ∷ ls) zero is = absurd (omega (arith, is))
empties (l ∷ ls) (suc n) is = ap (λ (gs : List (List pieces.Piece)). [] ∷ gs) (empties ls n (omega (arith, is)))

module _ (ps : List pieces.Piece) (sections : List OutputSection) (numbers : List ℕ) (are : AreOutputsOf ps sections numbers) where
  -- there are as many output sections as leaders, and as many numbers as pieces
  pub sections_count : length sections ≡ length (leaders ps)
  sections_count =
      sym (length-map sections output_view) ∙ (ap (λ (os : List Output). length os) are.sections_are ∙ length-map (leaders ps) output_of)

  pub numbers_count : length numbers ≡ length ps
  numbers_count =
      sym (length-map numbers (output_at sections))
      ∙ (ap (λ (os : List (Option Output)). length os) are.numbers_are ∙ length-map ps (λ (p : pieces.Piece). Some (output_of p)))

  module _ (k d : ℕ) (e : pieces.Piece) (within : k < length ps) where
    -- the number of a piece is that of its output section, and of the leader of that
    number_at : output_at sections (get_or numbers k d) ≡ Some (output_of (get_or ps k e))
    number_at =
        let n = numbers_count in
        let there : k < length numbers = omega (arith, n, within) in
        sym (get_or-map (output_at sections) numbers k d None there)
        ∙ ap (λ (os : List (Option Output)). get_or os k None) are.numbers_are
        ∙ get_or-map (λ (p : pieces.Piece). Some (output_of p)) ps k e None within

    led : (l : pieces.Piece) × (slice_get (leaders ps) (get_or numbers k d) ≡ Some l) × (same_output l (get_or ps k e) ≡ true)
    led = by (slice_get (leaders ps) i) refl
      where
        i : ℕ
        i = get_or numbers k d

        is : option_map output_of (slice_get (leaders ps) i) ≡ Some (output_of (get_or ps k e))
        is =
            sym (slice_get-map output_of (leaders ps) i)
            ∙ ap (λ (os : List Output). slice_get os i) (sym are.sections_are)
            ∙ slice_get-map output_view sections i
            ∙ number_at

        by : (o : Option pieces.Piece) → slice_get (leaders ps) i ≡ o → (l : pieces.Piece) × (slice_get (leaders ps) i ≡ Some l) × (same_output l (get_or ps k e) ≡ true)
        by None there = absurd (none-some (output_of (get_or ps k e)) (ap (option_map output_of) (sym there) ∙ is))
        by (Some l) there =
            (l, there, same_output_of l (get_or ps k e) (same_Some (output_of l) (output_of (get_or ps k e)) (ap (option_map output_of) (sym there) ∙ is)))

    led_within : get_or numbers k d < length (leaders ps)
    led_within = slice_get_within (leaders ps) (get_or numbers k d) led.0 led.1

    -- the groups with one more piece, in that of its leader
    pub groups_more :
        (groups new : List (List pieces.Piece)) → groups ≡ map (group (take k ps)) (leaders ps) → new ≡ put_at groups (get_or numbers k d) (get_or ps k e) →
        new ≡ map (group (take (k + 1) ps)) (leaders ps)
    groups_more groups new so_far put =
        put
        ∙ ap (λ (gs : List (List pieces.Piece)). put_at gs (get_or numbers k d) (get_or ps k e)) so_far
        ∙ put_at_leader (take k ps) (leaders ps) (get_or numbers k d) led.0 (get_or ps k e) led.1 led.2 (leaders_other ps)
        ∙ ap (λ (qs : List pieces.Piece). map (group qs) (leaders ps)) (sym (take_more ps k e within))

  pub number_within : (k d : ℕ) → k < length ps → get_or numbers k d < length (leaders ps)
  number_within k d within = led_within k d (some ps within) within
    where
      some : (qs : List pieces.Piece) → k < length qs → pieces.Piece
      some [] w = absurd (omega (arith, w))
      some (q ∷ qs) w = q
