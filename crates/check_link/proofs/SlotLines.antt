-- The position of the first slot line for a request, and the line that stands there.
use Rattle.std.proofs.Common.{◌≡◌, ℕ, ◌+◌, ◌<◌, ◌||◌, Bool, true, false, cond, List, [], ◌∷◌, ◌++◌, append_assoc, Option, Some, None, length, length-append, refl, sym, ◌∙◌, ap, arith}
use Rattle.std.specs.Prelude.{find, is_some, slice_get}
use Rattle.std.specs.List.{list_any, position_from}
use Rattle.std.specs.Option.{option_and_then, option_map_or}
use Rattle.std.proofs.lemmas.Bool.{false≢true}
use Rattle.std.proofs.lemmas.Option.{slice_get_within}
use Rattle.elf_model.proofs.Finding.{find-found}
use Rattle.elf_model.proofs.SameRequests.{requests_equal}
use Rattle.elf_model.specs.Image.MapRecord.{SlotRow}
use Rattle.elf_model.specs.Link.Slots.{Request, is_slot_of, requested_address, row_request}
use Rattle.check_link.specs.Slots.{line_of}

behind : {X : Type 0} (front : List X) (x : X) (xs : List X) → slice_get (front ++ x ∷ xs) (length front) ≡ Some x
behind [] x xs = refl
behind (y ∷ ys) x xs = behind ys x xs

-- the first that passes stands at the first position
first_there : {X : Type 0} (p : X → Bool) (front xs all : List X) (k : ℕ) → all ≡ front ++ xs → k ≡ length front →
    option_and_then (slice_get all) (position_from p k xs) ≡ find p xs
first_there p front [] all k whole at = refl
first_there {X} p front (x ∷ xs) all k whole at =
    by (p x)
    (ap (λ (ys : List X). slice_get ys k) whole ∙ (ap (slice_get (front ++ x ∷ xs)) at ∙ behind front x xs))
    (first_there p (front ++ x ∷ []) xs all (k + 1) (whole ∙ sym (append_assoc front (x ∷ []) xs)) (let long = length-append front (x ∷ []) in omega (arith, long, at)))
  where
    by : (b : Bool) → slice_get all k ≡ Some x → option_and_then (slice_get all) (position_from p (k + 1) xs) ≡ find p xs →
        option_and_then (slice_get all) (cond b (Some k) (position_from p (k + 1) xs)) ≡ cond b (Some x) (find p xs)
    by true here rest = here
    by false here rest = rest

pub line_there : (rows : List SlotRow) (q : Request) → option_and_then (slice_get rows) (line_of rows q) ≡ find (is_slot_of q) rows
line_there rows q = first_there (is_slot_of q) [] rows rows 0 refl refl

-- there is a position where one passes
some_first : {X : Type 0} (p : X → Bool) (xs : List X) (k : ℕ) → is_some (position_from p k xs) ≡ list_any p xs
some_first p [] k = refl
some_first {X} p (x ∷ xs) k = by (p x) (some_first p xs (k + 1))
  where
    by : (b : Bool) → is_some (position_from p (k + 1) xs) ≡ list_any p xs → is_some (cond b (Some k) (position_from p (k + 1) xs)) ≡ (b || list_any p xs)
    by true rest = refl
    by false rest = rest

pub has_line : (rows : List SlotRow) (q : Request) → is_some (line_of rows q) ≡ list_any (is_slot_of q) rows
has_line rows q = some_first (is_slot_of q) rows 0

-- the address of the line that stands there
pub line_address : (rows : List SlotRow) (q : Request) (i : ℕ) → line_of rows q ≡ Some i →
    option_map_or (λ row. row.address) (slice_get rows i) 0 ≡ requested_address rows q
line_address rows q i is =
    ap (λ (o : Option SlotRow). option_map_or (λ row. row.address) o 0) (sym (ap (option_and_then (slice_get rows)) is) ∙ line_there rows q)

pub no_address : (rows : List SlotRow) (q : Request) → line_of rows q ≡ None → 0 ≡ requested_address rows q
no_address rows q is =
    ap (λ (o : Option SlotRow). option_map_or (λ row. row.address) o 0) (sym (ap (option_and_then (slice_get rows)) is) ∙ line_there rows q)

-- it is for the request
pub line_passes : (rows : List SlotRow) (q : Request) (i : ℕ) → line_of rows q ≡ Some i → (row : SlotRow) → slice_get rows i ≡ Some row → q ≡ row_request row
line_passes rows q i is row there =
    requests_equal q (row_request row)
    (find-found (is_slot_of q) rows row (sym (line_there rows q) ∙ (ap (option_and_then (slice_get rows)) is ∙ there))).passes

-- a position is a line's
line_within : (rows : List SlotRow) (q : Request) (i : ℕ) → line_of rows q ≡ Some i → is_some (slice_get rows i) ≡ true
line_within rows q i is =
    ap (λ (o : Option SlotRow). is_some o) (sym (ap (option_and_then (slice_get rows)) is) ∙ line_there rows q)
    ∙ some_found (is_slot_of q) rows
    ∙ sym (has_line rows q)
    ∙ ap (λ (o : Option ℕ). is_some o) is
  where
    some_found : {X : Type 0} (p : X → Bool) (xs : List X) → is_some (find p xs) ≡ list_any p xs
    some_found p [] = refl
    some_found {X} p (x ∷ xs) = by (p x) (some_found p xs)
      where
        by : (b : Bool) → is_some (find p xs) ≡ list_any p xs → is_some (cond b (Some x) (find p xs)) ≡ (b || list_any p xs)
        by true rest = refl
        by false rest = rest

pub line_below : (rows : List SlotRow) (q : Request) (i : ℕ) → line_of rows q ≡ Some i → i < length rows
line_below rows q i is = by (slice_get rows i) refl
  where
    by : (o : Option SlotRow) → slice_get rows i ≡ o → i < length rows
    by (Some row) at = slice_get_within rows i row at
    by None at = absurd (false≢true (sym (ap (λ (o : Option SlotRow). is_some o) at) ∙ line_within rows q i is))

-- two requests that have a position are the same
pub same_line : (rows : List SlotRow) (q r : Request) (i : ℕ) → line_of rows q ≡ Some i → line_of rows r ≡ Some i → q ≡ r
same_line rows q r i is as_well = by (slice_get rows i) refl
  where
    by : (o : Option SlotRow) → slice_get rows i ≡ o → q ≡ r
    by (Some row) at = line_passes rows q i is row at ∙ sym (line_passes rows r i as_well row at)
    by None at = absurd (false≢true (sym (ap (λ (o : Option SlotRow). is_some o) at) ∙ line_within rows q i is))
