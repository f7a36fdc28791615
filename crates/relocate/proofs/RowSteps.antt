-- The patches of an object with a row more, behind those that there are.
use Rattle.std.proofs.Common.{◌≡◌, ℕ, suc, zero, ◌+◌, ◌-◌, ◌<◌, ◌≤◌, ◌⊎◌, inl, inr, Bool, true, false, List, [], ◌∷◌, ◌++◌, drop, get_or, length, map, nat_lt, refl, replicate, subst, sym, take, ap, ◌∙◌, arith}
use Rattle.std.specs.Prelude.{All, slice_index, slice_range}
use Rattle.std.proofs.lemmas.Bool.{ltb-false, ltb-true}
use Rattle.std.proofs.lemmas.List.{append-nil, drop-append-le, get_or-replicate, get_or_append_left, length-append, length-drop, length-replicate, nil_from_length, take-append-le, take_all}
use Rattle.std.proofs.lemmas.List.Sorted.{IsPermutation-refl, length_permutation}
use Rattle.std.proofs.Math.Seq.{drop-append_seam, get_or-append_right, get_or-append_seam, take-append_seam, take-length}
use Rattle.elf_model.specs.Link.Loading.{LoadedObject}
use Rattle.elf_model.specs.Link.Placement.{Where}
use Rattle.elf_model.specs.Link.Relocation.{Relocation}
use Rattle.relocate.proofs.Rows.{patches_append, patches_elsewhere, patches_here}
use Rattle.relocate.specs.ObjectRows.{HasOrderedRow, HasRows}
use Rattle.reloc_values.specs.Patches.{IsPatchRow}
use Rattle.relocate.specs.Values.{ArePatchRows, patch_of, patches_in, row_at}
use Rattle.relocate.specs.declared.object_rows.ObjectPatches.{ObjectPatches}
use Rattle.reloc_values.specs.declared.patch.Patch.{Patch}

-- a row with no patch is in order
none_ordered : (row : List Patch) → row ≡ [] → IsPatchRow [] row
none_ordered row none =
    subst (λ (ps : List Patch). IsPatchRow [] ps) (sym none) (record { same = IsPermutation-refl []; ordered = λ i j d low high. absurd (omega (arith, high)) })

-- where a row has no end, or ends where it begins, it has no patch
ended : (ps : List Patch) (a b : ℕ) → b ≤ a → slice_range ps a b ≡ []
ended ps a b low = let none : b - a ≡ 0 = omega (arith, low) in ap (λ (n : ℕ). take n (drop a ps)) none

-- a row that ends within the patches in front
in_front : (ps qs : List Patch) (a b : ℕ) → a ≤ length ps → b ≤ length ps → slice_range (ps ++ qs) a b ≡ slice_range ps a b
in_front ps qs a b low high =
    ap (λ (xs : List Patch). take (b - a) xs) (drop-append-le a ps qs low)
    ∙ take-append-le (b - a) (drop a ps) qs (let long = length-drop a ps in omega (arith, long, low, high))

-- the row behind them
behind : (ps qs : List Patch) (a b : ℕ) → a ≡ length ps → b ≡ length (ps ++ qs) → slice_range (ps ++ qs) a b ≡ qs
behind ps qs a b at end =
    let long = length-append ps qs in
    let count : b - a ≡ length qs = omega (arith, at, end, long) in
    ap (λ (n : ℕ). take (b - a) (drop n (ps ++ qs))) at
    ∙ (ap (λ (xs : List Patch). take (b - a) xs) (drop-append_seam ps qs)
    ∙ (ap (λ (n : ℕ). take n qs) count ∙ take-length qs))

-- the beginnings of the rows with those of the sections as far as t more, which begin at b, and the end of the last one, which
-- is e
pub record AreMore (old new : List ℕ) (t b e : ℕ) : Type 0 where
  pub count : length new ≡ t + 2
  pub kept : (k : ℕ) → k < length old → slice_index new k ≡ slice_index old k
  pub filled : (k : ℕ) → length old ≤ k → k ≤ t → slice_index new k ≡ b
  pub end : slice_index new (t + 1) ≡ e

-- as they are filled up, and the end put behind
pub begins_more :
    (old filled new : List ℕ) (t count b e begin end : ℕ) → length old ≤ t + 1 → filled ≡ take (t + 1) old ++ replicate count b → count ≡ t + 1 - length old →
    new ≡ filled ++ e ∷ [] → b ≡ begin → e ≡ end → AreMore old new t begin end
begins_more old filled new t count b e begin end later filling counted pushed begins ends = record {
  count =
      ap (λ (xs : List ℕ). length xs) pushed
      ∙ (length-append filled (e ∷ []) ∙ (let l = long in omega (arith, l)));
  kept = λ k low.
      at k ∙ (get_or_append_left filled (e ∷ []) 0 k (let l = long in omega (arith, l, low, later))
      ∙ (in_filled k ∙ get_or_append_left old (replicate count b) 0 k low));
  filled = λ k high low.
      at k ∙ (get_or_append_left filled (e ∷ []) 0 k (let l = long in omega (arith, l, low))
      ∙ (in_filled k
      ∙ (get_or-append_right old (replicate count b) k 0 high
      ∙ (get_or-replicate count (k - length old) b 0 (omega (arith, counted, low, high)) ∙ begins))));
  end =
      at (t + 1)
      ∙ (ap (λ (k : ℕ). get_or (filled ++ e ∷ []) k 0) (sym long) ∙ (get_or-append_seam filled e [] 0 ∙ ends));
}
  where
    whole : filled ≡ old ++ replicate count b
    whole = filling ∙ ap (λ (xs : List ℕ). xs ++ replicate count b) (take_all (t + 1) old later)

    long : length filled ≡ t + 1
    long = ap (λ (xs : List ℕ). length xs) whole ∙ (length-append old (replicate count b) ∙ (let r = length-replicate count b in omega (arith, r, counted, later)))

    at : (k : ℕ) → get_or new k 0 ≡ get_or (filled ++ e ∷ []) k 0
    at k = ap (λ (xs : List ℕ). get_or xs k 0) pushed

    in_filled : (k : ℕ) → get_or filled k 0 ≡ get_or (old ++ replicate count b) k 0
    in_filled k = ap (λ (xs : List ℕ). get_or xs k 0) whole

-- the patches behind others, put in order
pub row_put :
    (ps fs mid new : List Patch) (begin : ℕ) (o : HasOrderedRow begin mid new) → mid ≡ ps ++ fs → begin ≡ length ps →
    (new ≡ ps ++ o.row) × IsPatchRow fs o.row
row_put ps fs mid new begin o parts at = (
  o.is ∙ ap (λ (xs : List Patch). xs ++ o.row) (ap (λ (k : ℕ). take k mid) at ∙ (ap (λ (xs : List Patch). take (length ps) xs) parts ∙ take-append_seam ps fs)),
  subst (λ (xs : List Patch). IsPatchRow xs o.row) (ap (λ (k : ℕ). drop k mid) at ∙ (ap (λ (xs : List Patch). drop (length ps) xs) parts ∙ drop-append_seam ps fs)) o.ordered,
)

-- past the end of a list
past : (xs : List ℕ) (k : ℕ) → length xs ≤ k → slice_index xs k ≡ 0
past [] k low = refl
past (x ∷ xs) zero low = absurd (omega (arith, low))
past (x ∷ xs) (suc k) low = past xs k (omega (arith, low))

low_or_not : (a b : ℕ) → (a < b) ⊎ (b ≤ a)
low_or_not a b = by (nat_lt a b) refl
  where
    by : (t : Bool) → nat_lt a b ≡ t → (a < b) ⊎ (b ≤ a)
    by true e = inl (ltb-true a b e)
    by false e = inr (ltb-false a b e)

module _ (objects : List LoadedObject) (w : Where) where
  -- no relocation, no row
  pub no_rows : (own : ObjectPatches) → own.patches.items ≡ [] → own.begins.items ≡ [] → HasRows objects w [] own
  no_rows own none nowhere = record {
    each = λ s. none_ordered (row_at own s) (ended own.patches.items (slice_index own.begins.items s) (slice_index own.begins.items (s + 1)) (let zero_end = ends (s + 1) in omega (arith, zero_end)));
    inside = λ s. let here = ends s in omega (arith, here);
    last = λ some. let long = ap (λ (xs : List ℕ). length xs) nowhere in absurd (omega (arith, some, long));
  }
    where
      ends : (s : ℕ) → slice_index own.begins.items s ≡ 0
      ends s = ap (λ (xs : List ℕ). slice_index xs s) nowhere

  pub all_rows : (whole done : List Relocation) (own : ObjectPatches) → ((s : ℕ) → patches_in objects w done s ≡ patches_in objects w whole s) → HasRows objects w done own → ArePatchRows objects w whole own
  all_rows whole done own same rows = record { each = λ s. subst (λ (ps : List Patch). IsPatchRow ps (row_at own s)) (same s) (rows.each s) }

  module _ (done here : List Relocation) (own new : ObjectPatches) (t : ℕ) (row : List Patch) (later : length own.begins.items ≤ t + 1)
      (more : AreMore own.begins.items new.begins.items t (length own.patches.items) (length new.patches.items))
      (added : new.patches.items ≡ own.patches.items ++ row) (section_is : All (λ r. r.section ≡ t) here)
      (ordered : IsPatchRow (map (patch_of objects w) here) row) (rows : HasRows objects w done own) where
    b : ℕ
    b = length own.patches.items

    old_begins : List ℕ
    old_begins = own.begins.items

    -- the beginning of a section's row, as far as t, that has no end before
    begins_at : (s : ℕ) → length own.begins.items ≤ s + 1 → s ≤ t → slice_index new.begins.items s ≡ length own.patches.items
    begins_at s short low = by (low_or_not s (length own.begins.items))
      where
        by : (s < length own.begins.items) ⊎ (length own.begins.items ≤ s) → slice_index new.begins.items s ≡ length own.patches.items
        by (inl in_old) =
            let at : length own.begins.items - 1 ≡ s = omega (arith, in_old, short) in
            more.kept s in_old ∙ (ap (λ (k : ℕ). slice_index own.begins.items k) (sym at) ∙ rows.last (omega (arith, in_old)))
        by (inr new_one) = more.filled s new_one low

    no_row : (s : ℕ) → length own.begins.items ≤ s + 1 → row_at own s ≡ []
    no_row s short = ended own.patches.items (slice_index own.begins.items s) (slice_index own.begins.items (s + 1)) (let end = past own.begins.items (s + 1) short in omega (arith, end))

    -- the row of t
    own_row : row_at new t ≡ row
    own_row =
        ap (λ (ps : List Patch). slice_range ps (slice_index new.begins.items t) (slice_index new.begins.items (t + 1))) added
        ∙ behind own.patches.items row (slice_index new.begins.items t) (slice_index new.begins.items (t + 1)) (begins_at t later (omega arith)) (more.end ∙ ap (λ (ps : List Patch). length ps) added)

    -- and those of other sections
    other_row : (s : ℕ) → (t ≡ s → ⊥) → row_at new s ≡ row_at own s
    other_row s differ = by (low_or_not s t) (low_or_not (s + 1) (length own.begins.items))
      where
        by : (s < t) ⊎ (t ≤ s) → (s + 1 < length own.begins.items) ⊎ (length own.begins.items ≤ s + 1) → row_at new s ≡ row_at own s
        by (inl low) (inl in_old) =
            ap (λ (ps : List Patch). slice_range ps (slice_index new.begins.items s) (slice_index new.begins.items (s + 1))) added
            ∙ (ap (λ (k : ℕ). slice_range (own.patches.items ++ row) k (slice_index new.begins.items (s + 1))) (more.kept s (omega (arith, in_old)))
            ∙ (ap (λ (k : ℕ). slice_range (own.patches.items ++ row) (slice_index own.begins.items s) k) (more.kept (s + 1) in_old)
            ∙ in_front own.patches.items row (slice_index own.begins.items s) (slice_index own.begins.items (s + 1)) (rows.inside s) (rows.inside (s + 1))))
        by (inl low) (inr short) =
            let begin = begins_at s short (omega (arith, low)) in
            let end = more.filled (s + 1) short (omega (arith, low)) in
            ended new.patches.items (slice_index new.begins.items s) (slice_index new.begins.items (s + 1)) (omega (arith, begin, end)) ∙ sym (no_row s short)
        by (inr high) at =
            let long = more.count in
            let end = past new.begins.items (s + 1) (omega (arith, long, high, differ)) in
            ended new.patches.items (slice_index new.begins.items s) (slice_index new.begins.items (s + 1)) (omega (arith, end)) ∙ sym (no_row s (omega (arith, later, high)))

    -- before, t had none
    nothing_yet : patches_in objects w done t ≡ []
    nothing_yet =
        let long = length_permutation (patches_in objects w done t) (row_at own t) (rows.each t).same in
        let none = ap (λ (ps : List Patch). length ps) (no_row t later) in
        nil_from_length (patches_in objects w done t) (omega (arith, long, none))

    each_row : (s : ℕ) → IsPatchRow (patches_in objects w (done ++ here) s) (row_at new s)
    each_row s = by (low_or_not s t) (low_or_not t s)
      where
        differs : (t ≡ s → ⊥) → IsPatchRow (patches_in objects w (done ++ here) s) (row_at new s)
        differs differ =
            subst (λ (ps : List Patch). IsPatchRow ps (row_at new s))
            (sym (patches_append objects w done here s ∙ (ap (λ (ps : List Patch). patches_in objects w done s ++ ps) (patches_elsewhere objects w t s here section_is differ) ∙ append-nil (patches_in objects w done s))))
            (subst (IsPatchRow (patches_in objects w done s)) (sym (other_row s differ)) (rows.each s))

        by : (s < t) ⊎ (t ≤ s) → (t < s) ⊎ (s ≤ t) → IsPatchRow (patches_in objects w (done ++ here) s) (row_at new s)
        by (inl low) at = differs (λ e. omega (arith, e, low))
        by (inr high) (inl above) = differs (λ e. omega (arith, e, above))
        by (inr high) (inr low) =
            let same : t ≡ s = omega (arith, high, low) in
            subst (λ (k : ℕ). IsPatchRow (patches_in objects w (done ++ here) k) (row_at new k)) same
            (subst (λ (ps : List Patch). IsPatchRow ps (row_at new t))
            (sym (patches_append objects w done here t ∙ (ap (λ (ps : List Patch). ps ++ patches_in objects w here t) nothing_yet ∙ patches_here objects w t here section_is)))
            (subst (IsPatchRow (map (patch_of objects w) here)) (sym own_row) ordered))

    pub rows_more : HasRows objects w (done ++ here) new
    rows_more = record {
      each = each_row;
      inside = λ s. within s (low_or_not s (length own.begins.items)) (low_or_not t s);
      last = λ some.
          let at : length new.begins.items - 1 ≡ t + 1 = (let long = more.count in omega (arith, long)) in
          ap (λ (k : ℕ). slice_index new.begins.items k) at ∙ more.end;
    }
      where
        long : length new.patches.items ≡ length own.patches.items + length row
        long = ap (λ (ps : List Patch). length ps) added ∙ length-append own.patches.items row

        within : (s : ℕ) → (s < length own.begins.items) ⊎ (length own.begins.items ≤ s) → (t < s) ⊎ (s ≤ t) → slice_index new.begins.items s ≤ length new.patches.items
        within s (inl in_old) at = let low = rows.inside s in let same = more.kept s in_old in omega (arith, low, same, long)
        within s (inr new_one) (inr low) = let same = more.filled s new_one low in omega (arith, same, long)
        within s (inr new_one) (inl above) = by (low_or_not (t + 1) s)
          where
            by : (t + 1 < s) ⊎ (s ≤ t + 1) → slice_index new.begins.items s ≤ length new.patches.items
            by (inl over) = let count = more.count in let none = past new.begins.items s (omega (arith, count, over)) in omega (arith, none)
            by (inr end) = let at : t + 1 ≡ s = omega (arith, above, end) in let same = ap (λ (k : ℕ). slice_index new.begins.items k) at in let e = more.end in omega (arith, same, e)
