-- The bounds of the places in the order of the segments are those of the own layout.
use Rattle.std.proofs.Common.{option_map, ◌≡◌, ◌∙◌, ◌⊎◌, inl, inr, ℕ, ◌+◌, ◌≤◌, ◌==◌, ◌++◌, Bool, true, false, cond, max, not, List, [], ◌∷◌, Option, ap, arith, length, map, refl, subst, sym}
use Rattle.std.specs.Prelude.{Contains, None, Some, filter, unwrap_or}
use Rattle.std.proofs.lemmas.Bool.{eq-eqb, eqb-true, false≢true}
use Rattle.std.proofs.lemmas.List.{map-append}
use Rattle.std.proofs.lemmas.List.Elements.{All-contains, Contains-append_cases}
use Rattle.elf_model.specs.Link.Commons.{pieces}
use Rattle.elf_model.specs.Link.LinkerNames.{named_output}
use Rattle.elf_model.specs.Link.LinkerValues.{bound_value, end_of_pieces, is_code_piece, is_file_data, is_loaded_piece, is_zero_data, least_of, start_of_pieces}
use Rattle.elf_model.specs.Link.Loading.{LoadedObject}
use Rattle.elf_model.specs.Own.OwnLayout.{got_line_of, got_number, got_piece, got_pieces, own_address, own_got, own_in_load_order, own_laid_out, own_placed, own_where}
use Rattle.elf_model.specs.Link.Pieces.{AreLawfulKinds, Piece, is_of_output}
use Rattle.elf_model.specs.Link.Placement.{Placed, got_end, got_start}
use Rattle.elf_model.specs.Link.Slots.{got_size, has_got}
use Rattle.elf_model.specs.declared.bound.Bound.{Bound}
use Rattle.elf_model.specs.declared.link_map.GotLine.{GotLine}
use Rattle.elf_model.specs.declared.bound.Bound.TheVariants.{CodeEnd, DataEnd, GotStart, ImageEnd, ImageStart, OutputEnd, OutputStart, ZeroStart}
use Rattle.elf_model.proofs.Listed.{Contains-filter, Contains-from_filter, Contains-from_map}
use Rattle.elf_model.proofs.PieceBounds.{IsWithinList, same_end, same_start}
use Rattle.elf_model.proofs.PieceNumbers.{got_pieces-each, pieces_low}
use Rattle.elf_model.proofs.Places.{at_own_address, got_listed, own_all, own_listed}
use Rattle.layout.specs.PieceParts.{AreBounds, bound_at, is_other}
use Rattle.layout.specs.declared.bounds.Bounds.{Bounds}

-- the greatest end and the least address in two lists in a row
end_append : (test : Piece → Bool) (xs ys : List Placed) → end_of_pieces test (xs ++ ys) ≡ max (end_of_pieces test xs) (end_of_pieces test ys)
end_append test [] ys = omega arith
end_append test (x ∷ xs) ys = by (test x.piece) (x.at + x.piece.size) (end_of_pieces test (xs ++ ys)) (end_of_pieces test xs) (end_of_pieces test ys) (end_append test xs ys)
  where
    by : (b : Bool) (e whole front behind : ℕ) → whole ≡ max front behind → cond b (max e whole) whole ≡ max (cond b (max e front) front) behind
    by true e whole front behind is = omega (arith, is)
    by false e whole front behind is = is

start_append : (test : Piece → Bool) (xs ys : List Placed) → start_of_pieces test ys ≡ None → start_of_pieces test (xs ++ ys) ≡ start_of_pieces test xs
start_append test [] ys none = none
start_append test (x ∷ xs) ys none = ap (λ (o : Option ℕ). cond (test x.piece) (Some (least_of x.at o)) o) (start_append test xs ys none)

-- a number is that of another object than the GOT's
other_from : (q : Placed) (n : ℕ) → (q.piece.object ≡ n → ⊥) → is_other n q ≡ true
other_from q n other = by (q.piece.object == n) refl
  where
    by : (b : Bool) → (q.piece.object == n) ≡ b → not b ≡ true
    by true e = absurd (other (eqb-true q.piece.object n e))
    by false e = refl

-- the GOT's beginning, by its address where there is one
start_by : (got : Option GotLine) → unwrap_or (option_map (λ g. g.address) got) 0 ≡ got_start got
start_by None = refl
start_by (Some g) = refl

module _ (base : ℕ) (objects : List LoadedObject) where
  -- the GOT at its own address
  abbrev got_places : List Placed
  got_places = map (at_own_address base objects) (got_pieces objects)

  laid : own_laid_out base objects ≡ own_in_load_order base objects ++ got_places
  laid = map-append (at_own_address base objects) (pieces objects) (got_pieces objects)

  in_laid : (q : Placed) → Contains (own_laid_out base objects) q → Contains (own_in_load_order base objects) q ⊎ Contains got_places q
  in_laid q c = Contains-append_cases (own_in_load_order base objects) got_places q (subst (λ (qs : List Placed). Contains qs q) laid c)

  is_got : (q : Placed) → Contains got_places q → q.piece.object ≡ got_number objects
  is_got q c =
      let from = Contains-from_map (at_own_address base objects) (got_pieces objects) q c in
      ap (λ (r : Placed). r.piece.object) (sym from.is)
      ∙ All-contains (λ (p : Piece). p.object ≡ got_number objects) (got_pieces objects) from.of
      (got_pieces-each objects (λ (p : Piece). p.object ≡ got_number objects) refl) from.there

  is_low : (q : Placed) → Contains (own_in_load_order base objects) q → q.piece.object ≤ length objects
  is_low q c =
      let from = Contains-from_map (at_own_address base objects) (pieces objects) q c in
      subst (λ (r : Placed). r.piece.object ≤ length objects) from.is
      (All-contains (λ (p : Piece). p.object ≤ length objects) (pieces objects) from.of (pieces_low objects) from.there)

  module _ (kinds : AreLawfulKinds objects) where
    there : IsWithinList (own_laid_out base objects) (own_placed base objects)
    there q c = by (in_laid q c)
      where
        by : Contains (own_in_load_order base objects) q ⊎ Contains got_places q → Contains (own_placed base objects) q
        by (inl piece) = own_listed base objects kinds q piece
        by (inr got) =
            let from = Contains-from_map (at_own_address base objects) (got_pieces objects) q got in
            subst (Contains (own_placed base objects)) from.is (got_listed base objects kinds from.of from.there)

    -- without the GOT these are the pieces in load order
    abbrev others : List Placed
    others = filter (is_other (got_number objects)) (own_placed base objects)

    others_listed : IsWithinList others (own_in_load_order base objects)
    others_listed q c =
        let kept = Contains-from_filter (is_other (got_number objects)) (own_placed base objects) q c in
        by kept.1 (in_laid q (own_all base objects kinds q kept.0))
      where
        by : is_other (got_number objects) q ≡ true → Contains (own_in_load_order base objects) q ⊎ Contains got_places q → Contains (own_in_load_order base objects) q
        by other (inl piece) = piece
        by other (inr got) =
            absurd (false≢true (sym (ap (λ b. not b) (eq-eqb q.piece.object (got_number objects) (is_got q got))) ∙ other))

    listed_others : IsWithinList (own_in_load_order base objects) others
    listed_others q c =
        Contains-filter (is_other (got_number objects)) (own_placed base objects) q (own_listed base objects kinds q c)
        (other_from q (got_number objects) (λ e. let low = is_low q c in omega (arith, e, low)))

    whole_end :
        (test : Piece → Bool) →
        end_of_pieces test (own_placed base objects) ≡ max (end_of_pieces test (own_in_load_order base objects)) (end_of_pieces test got_places)
    whole_end test =
        same_end test (own_placed base objects) (own_laid_out base objects) (own_all base objects kinds) there
        ∙ (ap (end_of_pieces test) laid ∙ end_append test (own_in_load_order base objects) got_places)

    -- the parts that the GOT is of, and those that it isn't of
    got_ends : (test : Piece → Bool) → test (got_piece objects) ≡ true → end_of_pieces test got_places ≡ got_end (own_got base objects)
    got_ends test is = by (has_got objects)
      where
        at : ℕ
        at = own_address base objects (got_piece objects)

        by :
            (b : Bool) →
            end_of_pieces test (map (at_own_address base objects) (cond b (got_piece objects ∷ []) [])) ≡ got_end (cond b (Some (got_line_of base objects)) None)
        by true =
            let most : max (at + got_size objects) 0 ≡ at + got_size objects = omega arith in
            ap (λ b. cond b (max (at + got_size objects) 0) 0) is ∙ most
        by false = refl

    got_none : (test : Piece → Bool) → test (got_piece objects) ≡ false → end_of_pieces test got_places ≡ 0
    got_none test is = by (has_got objects)
      where
        by : (b : Bool) → end_of_pieces test (map (at_own_address base objects) (cond b (got_piece objects ∷ []) [])) ≡ 0
        by true = ap (λ b. cond b (max (own_address base objects (got_piece objects) + got_size objects) 0) 0) is
        by false = refl

    got_unstarted : (test : Piece → Bool) → test (got_piece objects) ≡ false → start_of_pieces test got_places ≡ None
    got_unstarted test is = by (has_got objects)
      where
        by : (b : Bool) → start_of_pieces test (map (at_own_address base objects) (cond b (got_piece objects ∷ []) [])) ≡ None
        by true = ap (λ b. cond b (Some (own_address base objects (got_piece objects))) None) is
        by false = refl

    with_got :
        (test : Piece → Bool) → test (got_piece objects) ≡ true →
        end_of_pieces test (own_placed base objects) ≡ max (end_of_pieces test (own_in_load_order base objects)) (got_end (own_got base objects))
    with_got test is = whole_end test ∙ ap (max (end_of_pieces test (own_in_load_order base objects))) (got_ends test is)

    pub without_got :
        (test : Piece → Bool) → test (got_piece objects) ≡ false →
        end_of_pieces test (own_placed base objects) ≡ end_of_pieces test (own_in_load_order base objects)
    without_got test is =
        let rest = got_none test is in
        let e = whole_end test in
        omega (arith, e, rest)

    pub started :
        (test : Piece → Bool) → test (got_piece objects) ≡ false →
        start_of_pieces test (own_placed base objects) ≡ start_of_pieces test (own_in_load_order base objects)
    started test is =
        same_start test (own_placed base objects) (own_laid_out base objects) (own_all base objects kinds) there
        ∙ (ap (start_of_pieces test) laid ∙ start_append test (own_in_load_order base objects) got_places (got_unstarted test is))

    pub own_bound :
        (got : ℕ) (b : Bounds) (name : List ℕ) (bound : Bound) → got ≡ unwrap_or (option_map (λ g. g.address) (own_got base objects)) 0 →
        AreBounds (got_number objects) (own_placed base objects) b →
        bound_at base got b name bound ≡ bound_value (own_where base objects) name bound
    own_bound got b name ImageStart is are = refl
    own_bound got b name CodeEnd is are = are.code_end ∙ without_got is_code_piece refl
    own_bound got b name DataEnd is are = are.data_end ∙ with_got is_file_data refl
    own_bound got b name ZeroStart is are = are.zero_start ∙ ap (λ (o : Option ℕ). unwrap_or o 0) (started is_zero_data refl)
    own_bound got b name ImageEnd is are = are.image_end ∙ with_got is_loaded_piece refl
    own_bound got b name GotStart is are = is ∙ start_by (own_got base objects)
    own_bound got b name OutputStart is are =
        ap (λ (o : Option ℕ). unwrap_or o 0)
        (are.outputs.starts (named_output name)
        ∙ same_start (is_of_output (named_output name)) others (own_in_load_order base objects) others_listed listed_others)
    own_bound got b name OutputEnd is are =
        are.outputs.ends (named_output name)
        ∙ same_end (is_of_output (named_output name)) others (own_in_load_order base objects) others_listed listed_others
