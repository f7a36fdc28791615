-- The pieces of a part, out of groups of all pieces: an output section belongs to a part with all its pieces.
use Rattle.std.proofs.Common.{◌≡◌, Bool, true, false, not, cond, List, [], ◌∷◌, ◌++◌, refl, sym, ◌∙◌, ap}
use Rattle.std.specs.Prelude.{All, Some, filter, map}
use Rattle.std.specs.Borrow.{Bor}
use Rattle.std.specs.Global.{Vec}
use Rattle.std.specs.List.{flat_map, slice_get}
use Rattle.std.proofs.lemmas.Bool.{false≢true}
use Rattle.std.proofs.lemmas.List.{map-append}
use Rattle.std.proofs.lemmas.List.Elements.{All-head, filter_passes}
use Rattle.std.proofs.lemmas.Option.{same_Some}
use Rattle.elf_model.specs.Link.ArrayOrder.{in_array_order}
use Rattle.elf_model.specs.Own.OwnLayout.{grouped, leaders}
use Rattle.elf_model.specs.Link.Pieces as pieces
use Rattle.elf_model.specs.Link.Pieces.{same_output}
use Rattle.elf_model.proofs.Grouped.{group_of_filter}
use Rattle.elf_model.proofs.SameOutput.{IsOfOutput, is_code-of_output, is_data-of_output, is_initial-of_output, is_read_only-of_output, is_thread_rest-of_output, is_zero-of_output}
use Rattle.layout.specs.Groups.{AreGathered, group, group_part, part_test, parts}
use Rattle.placing.specs.Views.{borrowed_view, borrowed_views}
use Rattle.layout.specs.declared.output_sections.Part.{Part}
use Rattle.layout.specs.declared.output_sections.Part.TheVariants as part
use Rattle.placing.specs.declared.piece.Piece.{Piece}

-- two filters may change places
filters_turned : {X : Type 0} (s t : X → Bool) (xs : List X) → filter s (filter t xs) ≡ filter t (filter s xs)
filters_turned s t [] = refl
filters_turned {X} s t (x ∷ xs) = by (s x) (t x) refl refl (filters_turned s t xs)
  where
    by :
        (b c : Bool) → s x ≡ b → t x ≡ c → filter s (filter t xs) ≡ filter t (filter s xs) →
        filter s (cond (t x) (x ∷ filter t xs) (filter t xs)) ≡ filter t (cond (s x) (x ∷ filter s xs) (filter s xs))
    by true true e f rest = rw (f, e, f) (ap (λ (l : List X). x ∷ l) rest)
    by true false e f rest = rw (f, e, f) rest
    by false true e f rest = rw (f, e) rest
    by false false e f rest = rw (f, e) rest

-- a filter that lets pass all that another one does
filter_within : {X : Type 0} (s t : X → Bool) → ((x : X) → t x ≡ true → s x ≡ true) → (xs : List X) → filter t (filter s xs) ≡ filter t xs
filter_within s t passes [] = refl
filter_within {X} s t passes (x ∷ xs) = by (s x) (t x) refl refl (filter_within s t passes xs)
  where
    by :
        (b c : Bool) → s x ≡ b → t x ≡ c → filter t (filter s xs) ≡ filter t xs →
        filter t (cond (s x) (x ∷ filter s xs) (filter s xs)) ≡ cond (t x) (x ∷ filter t xs) (filter t xs)
    by true true e f rest = rw (e, f) (ap (λ (l : List X). x ∷ l) rest)
    by true false e f rest = rw (e, f) rest
    by false true e f rest = absurd (false≢true (sym e ∙ passes x f))
    by false false e f rest = rw (e, f) rest

module _ (t : pieces.Piece → Bool) (of_output : IsOfOutput t) where
  -- the leaders of those that pass are the leaders that pass
  leaders_filter : (ps : List pieces.Piece) → leaders (filter t ps) ≡ filter t (leaders ps)
  leaders_filter [] = refl
  leaders_filter (p ∷ ps) = by (t p) refl (leaders_filter ps)
    where
      other : pieces.Piece → Bool
      other q = not (same_output p q)

      apart : t p ≡ false → (q : pieces.Piece) → t q ≡ true → other q ≡ true
      apart e q f = at (same_output p q) refl
        where
          at : (b : Bool) → same_output p q ≡ b → not b ≡ true
          at true s = absurd (false≢true (sym e ∙ (of_output p q s ∙ f)))
          at false s = refl

      by :
          (b : Bool) → t p ≡ b → leaders (filter t ps) ≡ filter t (leaders ps) →
          leaders (cond (t p) (p ∷ filter t ps) (filter t ps)) ≡ cond (t p) (p ∷ filter t (filter other (leaders ps))) (filter t (filter other (leaders ps)))
      by true e rest =
          rw (e) (ap (λ (ls : List pieces.Piece). p ∷ ls) (ap (filter other) rest ∙ filters_turned other t (leaders ps)))
      by false e rest = rw (e) (rest ∙ sym (filter_within other t (apart e) (leaders ps)))

  abbrev chosen : List pieces.Piece → pieces.Piece → List pieces.Piece
  chosen ps l = cond (t l) (in_array_order (group ps l)) []

  chosen_parts :
      (ps ls : List pieces.Piece) →
      flat_map (chosen ps) ls ≡ flat_map (λ l. in_array_order (group (filter t ps) l)) (filter t ls)
  chosen_parts ps [] = refl
  chosen_parts ps (l ∷ ls) = by (t l) refl (chosen_parts ps ls)
    where
      order : pieces.Piece → List pieces.Piece
      order m = in_array_order (group (filter t ps) m)

      by :
          (b : Bool) → t l ≡ b → flat_map (chosen ps) ls ≡ flat_map order (filter t ls) →
          cond (t l) (in_array_order (group ps l)) [] ++ flat_map (chosen ps) ls ≡ flat_map order (cond (t l) (l ∷ filter t ls) (filter t ls))
      by true e rest =
          rw (e)
          (ap (λ (qs : List pieces.Piece). in_array_order qs ++ flat_map (chosen ps) ls) (sym (group_of_filter t ps l of_output e))
          ∙ ap (λ (qs : List pieces.Piece). order l ++ qs) rest)
      by false e rest = rw (e) rest

  -- a group belongs to a part as its first piece does
  abbrev test_part : List pieces.Piece → List pieces.Piece
  test_part [] = []
  test_part (p ∷ ps) = cond (t p) (in_array_order (p ∷ ps)) []

  first_tells : (l : pieces.Piece) (g : List pieces.Piece) → All (λ p. same_output l p ≡ true) g → test_part g ≡ cond (t l) (in_array_order g) []
  first_tells l [] alike = by (t l)
    where
      by : (b : Bool) → [] ≡ cond {A = List pieces.Piece} b [] []
      by true = refl
      by false = refl
  first_tells l (p ∷ ps) alike =
      ap (λ (b : Bool). cond b (in_array_order (p ∷ ps)) []) (sym (of_output l p (All-head (λ q. same_output l q ≡ true) p ps alike)))

  group_parts : (ps ls : List pieces.Piece) → flat_map test_part (map (group ps) ls) ≡ flat_map (chosen ps) ls
  group_parts ps [] = refl
  group_parts ps (l ∷ ls) =
      ap (λ (qs : List pieces.Piece). qs ++ flat_map test_part (map (group ps) ls)) (first_tells l (group ps l) (filter_passes (same_output l) ps))
      ∙ ap (λ (qs : List pieces.Piece). chosen ps l ++ qs) (group_parts ps ls)

  -- the parts of all groups are the grouped pieces that pass
  parts_are : (ps : List pieces.Piece) → flat_map test_part (map (group ps) (leaders ps)) ≡ grouped (filter t ps)
  parts_are ps =
      group_parts ps (leaders ps)
      ∙ chosen_parts ps (leaders ps)
      ∙ ap (flat_map (λ l. in_array_order (group (filter t ps) l))) (sym (leaders_filter ps))

part_of_output : (p : Part) → IsOfOutput (part_test p)
part_of_output part.ReadOnly = is_read_only-of_output
part_of_output part.Code = is_code-of_output
part_of_output part.Initial = is_initial-of_output
part_of_output part.Data = is_data-of_output
part_of_output part.Zero = is_zero-of_output
part_of_output part.ThreadRest = is_thread_rest-of_output

pub parts_grouped : (p : Part) (ps : List pieces.Piece) (gs : List (Vec (Bor Piece))) → AreGathered gs ps → parts p gs ≡ grouped (filter (part_test p) ps)
parts_grouped p ps gs are = ap (flat_map (group_part p)) are ∙ same (map (group ps) (leaders ps)) ∙ parts_are (part_test p) (part_of_output p) ps
  where
    same : (gs : List (List pieces.Piece)) → flat_map (group_part p) gs ≡ flat_map (test_part (part_test p) (part_of_output p)) gs
    same [] = refl
    same (g ∷ gs) = ap (λ (qs : List pieces.Piece). qs ++ flat_map (group_part p) gs) (one g) ∙ ap (λ (qs : List pieces.Piece). test_part (part_test p) (part_of_output p) g ++ qs) (same gs)
      where
        one : (g : List pieces.Piece) → group_part p g ≡ test_part (part_test p) (part_of_output p) g
        one [] = refl
        one (q ∷ qs) = refl

-- the pieces of a group behind others, as they are and sorted
pub group_behind :
    (out new added group : List (Bor Piece)) (p : Part) (first : Bor Piece) → new ≡ out ++ added → slice_get group 0 ≡ Some first → part_test p (borrowed_view first) ≡ true →
    borrowed_views added ≡ in_array_order (borrowed_views group) →
    borrowed_views new ≡ borrowed_views out ++ group_part p (borrowed_views group)
group_behind out new added [] p first is there passes order = absurd (cc)
group_behind out new added (q ∷ qs) p first is there passes order =
    ap borrowed_views is
    ∙ map-append borrowed_view out added
    ∙ ap (λ (ps : List pieces.Piece). borrowed_views out ++ ps) order
    ∙ ap (λ (b : Bool). borrowed_views out ++ cond b (in_array_order (borrowed_views (q ∷ qs))) []) (sym (ap (λ (r : Bor Piece). part_test p (borrowed_view r)) (same_Some q first there) ∙ passes))
