-- Entries of a table of addresses, as they are written.
use Rattle.std.proofs.Common.{◌≡◌, ℕ, zero, suc, ◌+◌, ◌<◌, ◌==◌, ◌&&◌, Bool, true, false, cond, List, [], ◌∷◌, ◌++◌, get_or, set, drop, length, replicate, refl, sym, ◌∙◌, ap, subst, arith}
use Rattle.std.specs.Prelude.{Option, Some, None, find, option_map}
use Rattle.std.specs.Global.{Vec}
use Rattle.std.specs.List.{slice_get}
use Rattle.std.specs.Option.{option_and_then}
use Rattle.std.proofs.lemmas.Bool.{eqb-false, eqb-true, ne_eqb}
use Rattle.std.proofs.lemmas.List.{append_assoc, get_or-map, length-map}
use Rattle.elf_model.specs.Inputs.ObjectFile.{sections}
use Rattle.elf_model.specs.Link.Placement.{Placed, is_of_section}
use Rattle.search.specs.Views.{loaded_views}
use Rattle.search.specs.declared.loaded.LoadedObject as code
use Rattle.layout.specs.Addresses.{HasEntry, entry, entry_in, section_counts, shape_of, told}
use Rattle.placing.specs.PlaceViews.{place_view, place_views}
use Rattle.placing.specs.declared.runs.Place.{Place}
use Rattle.elf_model.proofs.Rests.{rest_at}

-- a list with one element written
got_same : {X : Type 0} (xs : List X) (i : ℕ) (x : X) → i < length xs → slice_get (set xs i x) i ≡ Some x
got_same [] i x within = absurd (omega (arith, within))
got_same (y ∷ ys) zero x within = refl
got_same (y ∷ ys) (suc i) x within = got_same ys i x (omega (arith, within))

got_other : {X : Type 0} (xs : List X) (i j : ℕ) (x : X) → (i ≡ j → ⊥) → slice_get (set xs i x) j ≡ slice_get xs j
got_other [] i j x other = refl
got_other (y ∷ ys) zero zero x other = absurd (other refl)
got_other (y ∷ ys) zero (suc j) x other = refl
got_other (y ∷ ys) (suc i) zero x other = refl
got_other (y ∷ ys) (suc i) (suc j) x other = got_other ys i j x (λ e. other (ap suc e))

got_within : {X : Type 0} (xs : List X) (i : ℕ) (d : X) → i < length xs → slice_get xs i ≡ Some (get_or xs i d)
got_within [] i d within = absurd (omega (arith, within))
got_within (x ∷ xs) zero d within = refl
got_within (x ∷ xs) (suc i) d within = got_within xs i d (omega (arith, within))

-- the row and the entry of a section that is there
pub row_there : (table : List (Vec ℕ)) (object section : ℕ) (d : Vec ℕ) → HasEntry (shape_of table) object section → (object < length table) × (section < length (get_or table object d).items)
row_there table object section d has =
    let n = length-map table (λ (row : Vec ℕ). length row.items) in
    let o = has.object_there in
    let within : object < length table = omega (arith, n, o) in
    let at : get_or (shape_of table) object 0 ≡ length (get_or table object d).items =
    get_or-map (λ (row : Vec ℕ). length row.items) table object d 0 within in
    (within, subst (λ (k : ℕ). section < k) at has.section_there)

-- an address that isn't 0 is told
told_some : (at : ℕ) → 0 < at → told at ≡ Some at
told_some at some = ap (λ (b : Bool). cond b None (Some at)) (ne_eqb at 0 (λ e. omega (arith, e, some)))

-- an entry that is written, and the others
pub put_entry :
    (table new : List (Vec ℕ)) (object section at : ℕ) (d row : Vec ℕ) → object < length table →
    0 < at → section < length (get_or table object d).items → row.items ≡ set (get_or table object d).items section at → new ≡ set table object row →
    (o s : ℕ) → entry new o s ≡ cond {A = Option ℕ} ((object == o) && (section == s)) (Some at) (entry table o s)
put_entry table new object section at d row within some inside written is o s =
    ap (λ (t : List (Vec ℕ)). entry t o s) is ∙ by (object == o) (section == s) refl refl
  where
    Row : Type 0
    Row = Vec ℕ

    next : List Row
    next = set table object row

    new_row : object ≡ o → entry next o s ≡ entry_in (set (get_or table object d).items section at) s
    new_row e =
        ap (λ (k : ℕ). entry next k s) (sym e)
        ∙ (ap (λ (g : Option Row). option_and_then (λ r. entry_in r.items s) g) (got_same table object row within)
        ∙ ap (λ (r : List ℕ). entry_in r s) written)

    old_row : object ≡ o → entry table o s ≡ entry_in (get_or table object d).items s
    old_row e =
        ap (λ (k : ℕ). entry table k s) (sym e)
        ∙ ap (λ (g : Option Row). option_and_then (λ r. entry_in r.items s) g) (got_within table object d within)

    flat : Option ℕ → Option ℕ
    flat g = option_and_then told g

    by :
        (b c : Bool) → (object == o) ≡ b → (section == s) ≡ c →
        entry next o s ≡ cond {A = Option ℕ} (b && c) (Some at) (entry table o s)
    by true true e f =
        new_row (eqb-true object o e)
        ∙ (ap (λ (k : ℕ). entry_in (set (get_or table object d).items section at) k) (sym (eqb-true section s f))
        ∙ (ap flat (got_same (get_or table object d).items section at inside) ∙ told_some at some))
    by true false e f =
        new_row (eqb-true object o e)
        ∙ (ap flat (got_other (get_or table object d).items section s at (eqb-false section s f)) ∙ sym (old_row (eqb-true object o e)))
    by false c e f =
        ap (λ (g : Option Row). option_and_then (λ r. entry_in r.items s) g) (got_other table object o row (eqb-false object o e))

-- rows keep their lengths
pub put_shape :
    (table new : List (Vec ℕ)) (object section at : ℕ) (d row : Vec ℕ) →
    row.items ≡ set (get_or table object d).items section at → new ≡ set table object row → shape_of new ≡ shape_of table
put_shape table new object section at d row written is = ap shape_of is ∙ same table object written
  where
    kept : {X : Type 0} (xs : List X) (i : ℕ) (x : X) → length (set xs i x) ≡ length xs
    kept [] i x = refl
    kept (y ∷ ys) zero x = refl
    kept (y ∷ ys) (suc i) x = ap suc (kept ys i x)

    same : (t : List (Vec ℕ)) (o : ℕ) → row.items ≡ set (get_or t o d).items section at → shape_of (set t o row) ≡ shape_of t
    same [] o w = refl
    same (r ∷ rs) zero w = ap (λ (n : ℕ). n ∷ shape_of rs) (ap (λ (xs : List ℕ). length xs) w ∙ kept r.items section at)
    same (r ∷ rs) (suc o) w = ap (λ (ns : List ℕ). length r.items ∷ ns) (same rs o w)

-- one more place, in front of those whose addresses are there
pub entry_more :
    (places : List Place) (left : ℕ) (d : Place) (old new : List (Vec ℕ)) (o s : ℕ) → left < length places →
    entry new o s ≡ cond {A = Option ℕ} (is_of_section o s (place_view (get_or places left d))) (Some (get_or places left d).at) (entry old o s) →
    entry old o s ≡ option_map (λ q. q.at) (find (is_of_section o s) (place_views (drop (left + 1) places))) →
    entry new o s ≡ option_map (λ q. q.at) (find (is_of_section o s) (place_views (drop left places)))
entry_more places left d old new o s within put before =
    let q : Placed = place_view (get_or places left d) in
    let rest : List Placed = place_views (drop (left + 1) places) in
    put
    ∙ (ap (λ (e : Option ℕ). cond {A = Option ℕ} (is_of_section o s q) (Some q.at) e) before
    ∙ (by (is_of_section o s q) q rest
    ∙ ap (λ (qs : List Place). option_map (λ r. r.at) (find (is_of_section o s) (place_views qs))) (sym (rest_at places left d within))))
  where
    by :
        (b : Bool) (q : Placed) (rest : List Placed) →
        cond {A = Option ℕ} b (Some q.at) (option_map (λ r. r.at) (find (is_of_section o s) rest)) ≡ option_map (λ r. r.at) (cond b (Some q) (find (is_of_section o s) rest))
    by true q rest = refl
    by false q rest = refl

-- a table without addresses, with one more row
none_in : (n s : ℕ) → entry_in (replicate n 0) s ≡ None
none_in zero s = refl
none_in (suc n) zero = refl
none_in (suc n) (suc s) = none_in n s

pub empty_more :
    (table new : List (Vec ℕ)) (row : Vec ℕ) (n : ℕ) → new ≡ table ++ row ∷ [] → row.items ≡ replicate n 0 →
    ((o s : ℕ) → entry table o s ≡ None) → (o s : ℕ) → entry new o s ≡ None
empty_more table new row n grown empty none o s = ap (λ (t : List (Vec ℕ)). entry t o s) grown ∙ at table o none
  where
    at : (t : List (Vec ℕ)) (k : ℕ) → ((i j : ℕ) → entry t i j ≡ None) → entry (t ++ row ∷ []) k s ≡ None
    at [] zero h = ap (λ (xs : List ℕ). entry_in xs s) empty ∙ none_in n s
    at [] (suc k) h = refl
    at (r ∷ t) zero h = h 0 s
    at (r ∷ t) (suc k) h = at t k (λ i j. h (suc i) j)

pub shape_more :
    (table new : List (Vec ℕ)) (n : ℕ) (objects : List code.LoadedObject) (i : ℕ) (d : code.LoadedObject) (whole : List ℕ) →
    i < length objects → d ≡ get_or objects i d → shape_of new ≡ shape_of table ++ n ∷ [] → n ≡ length (sections d.object) →
    shape_of table ++ section_counts (loaded_views (drop i objects)) ≡ whole →
    shape_of new ++ section_counts (loaded_views (drop (i + 1) objects)) ≡ whole
shape_more table new n objects i d whole within is grown count so_far =
    let rest : List ℕ = section_counts (loaded_views (drop (i + 1) objects)) in
    let front : section_counts (loaded_views (drop i objects)) ≡ length (sections d.object) ∷ rest =
    ap (λ (os : List code.LoadedObject). section_counts (loaded_views os)) (rest_at objects i d within)
    ∙ ap (λ (o : code.LoadedObject). length (sections o.object) ∷ rest) (sym is) in
    ap (λ (ns : List ℕ). ns ++ rest) grown
    ∙ (append_assoc (shape_of table) (n ∷ []) rest
    ∙ (ap (λ (m : ℕ). shape_of table ++ m ∷ rest) count
    ∙ (ap (λ (ns : List ℕ). shape_of table ++ ns) (sym front) ∙ so_far)))
