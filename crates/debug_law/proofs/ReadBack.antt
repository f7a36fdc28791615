-- Records that are spelled one behind the other, each with the offset of its name, are read back; and so are the names.
use Rattle.std.proofs.Common.{◌≡◌, ◌∙◌, ◌+◌, ◌*◌, ◌^◌, ◌<◌, ◌≤◌, ◌++◌, ℕ, suc, List, [], ◌∷◌, ap, append_assoc, arith, drop, drop_at, length, map, refl, sym, take, take_at}
use Rattle.std.specs.Prelude.{All, cond, false, not}
use Rattle.std.specs.List.{flat_map, position_or_len, range_with_len}
use Rattle.std.proofs.lemmas.List.{drop-drop, length-append}
use Rattle.std.proofs.lemmas.List.Elements.{All-head, All-tail}
use Rattle.byteview.specs.Numbers.{is_nul, part, text}
use Rattle.elf_model.specs.Image.SymbolTable.{ended}
use Rattle.debug_image.specs.Tables.{spelled_from}
use Rattle.debug_law.proofs.ObjectFields.{IsText}

-- what is spelled, with the offsets of names from one on
abbrev pub named_from : {A B : Type 0} → (A → List ℕ) → (ℕ → A → B) → ℕ → List A → List B
named_from name entry at [] = []
named_from name entry at (x ∷ xs) = entry at x ∷ named_from name entry (at + (length (name x) + 1)) xs

-- a spelling that has one length, and is read back
pub record IsSpelling {A B : Type 0} (read : List ℕ → B) (c : ℕ) (spelling : ℕ → A → List ℕ) (entry : ℕ → A → B) (Fits : A → Type 0) : Type 0 where
  pub size : (at : ℕ) (x : A) → length (spelling at x) ≡ c
  pub again : (at : ℕ) (x : A) → Fits x → read (spelling at x) ≡ entry at x

pub length_spelled :
    {A B : Type 0} (read : List ℕ → B) (c : ℕ) (name : A → List ℕ) (spelling : ℕ → A → List ℕ) (entry : ℕ → A → B) (Fits : A → Type 0) →
    IsSpelling read c spelling entry Fits → (at : ℕ) (xs : List A) → length (spelled_from name spelling at xs) ≡ c * length xs
length_spelled read c name spelling entry Fits is at [] = omega arith
length_spelled read c name spelling entry Fits is at (x ∷ xs) =
    let rest = length_spelled read c name spelling entry Fits is (at + (length (name x) + 1)) xs in
    let own = is.size at x in
    length-append (spelling at x) (spelled_from name spelling (at + (length (name x) + 1)) xs) ∙ omega (arith, own, rest)

-- the records of a table, from one on
pub read_from :
    {A B : Type 0} (read : List ℕ → B) (c : ℕ) (name : A → List ℕ) (spelling : ℕ → A → List ℕ) (entry : ℕ → A → B) (Fits : A → Type 0) →
    IsSpelling read c spelling entry Fits → (bytes back : List ℕ) (o j at : ℕ) (xs : List A) → All Fits xs →
    drop (o + c * j) bytes ≡ spelled_from name spelling at xs ++ back →
    map (λ i. read (part bytes (o + c * i) c)) (range_with_len j (length xs)) ≡ named_from name entry at xs
read_from read c name spelling entry Fits is bytes back o j at [] fit e = refl
read_from {A} {B} read c name spelling entry Fits is bytes back o j at (x ∷ xs) fit e =
    let next = at + (length (name x) + 1) in
    let rest = spelled_from name spelling next xs ++ back in
    let begins : drop (o + c * j) bytes ≡ spelling at x ++ rest = e ∙ append_assoc (spelling at x) (spelled_from name spelling next xs) back in
    let own : part bytes (o + c * j) c ≡ spelling at x = ap (take c) begins ∙ take_at (spelling at x) rest c (is.size at x) in
    let head : read (part bytes (o + c * j) c) ≡ entry at x = ap read own ∙ is.again at x (All-head Fits x xs fit) in
    let place : o + c * j + c ≡ o + c * (j + 1) = omega arith in
    let behind : drop (o + c * (j + 1)) bytes ≡ rest =
    ap (λ n. drop n bytes) (sym place) ∙ (sym (drop-drop c (o + c * j) bytes) ∙ (ap (drop c) begins ∙ drop_at (spelling at x) rest c (is.size at x))) in
    ap (λ h. h ∷ map (λ i. read (part bytes (o + c * i) c)) (range_with_len (j + 1) (length xs))) head
    ∙ ap (λ t. entry at x ∷ t) (read_from read c name spelling entry Fits is bytes back o (j + 1) next xs (All-tail Fits x xs fit) behind)

-- a text that a NUL ends
text_there : (name rest : List ℕ) → All (λ b. is_nul b ≡ false) name → text (name ++ 0 ∷ rest) 0 ≡ name
text_there [] rest none = refl
text_there (b ∷ bs) rest none =
    let behind = text_there bs rest (All-tail (λ b. is_nul b ≡ false) b bs none) in
    let place = position_or_len is_nul (bs ++ 0 ∷ rest) in
    let more : 1 + place ≡ suc place = omega arith in
    ap (λ t. take (cond (not t) (1 + place) 0) (b ∷ (bs ++ 0 ∷ rest))) (All-head (λ b. is_nul b ≡ false) b bs none)
    ∙ (ap (λ n. take n (b ∷ (bs ++ 0 ∷ rest))) more ∙ ap (λ l. b ∷ l) behind)

pub text_at : (bytes name rest : List ℕ) (at : ℕ) → drop at bytes ≡ name ++ 0 ∷ rest → All (λ b. is_nul b ≡ false) name → text bytes at ≡ name
text_at bytes name rest at e none = ap (λ (l : List ℕ). take (position_or_len is_nul l) l) e ∙ text_there name rest none

-- the names are those at the offsets
pub names_from :
    {A B : Type 0} (name : A → List ℕ) (entry : ℕ → A → B) (offset : B → ℕ) → ((at : ℕ) (x : A) → at < 2 ^ 32 → offset (entry at x) ≡ at) →
    (bytes : List ℕ) (at : ℕ) (xs : List A) → All (λ x. IsText (name x)) xs → drop at bytes ≡ flat_map (λ x. ended (name x)) xs →
    at + length (flat_map (λ x. ended (name x)) xs) ≤ 2 ^ 32 → map (λ b. text bytes (offset b)) (named_from name entry at xs) ≡ map name xs
names_from name entry offset is bytes at [] texts e small = refl
names_from {A} {B} name entry offset is bytes at (x ∷ xs) texts e small =
    let rest = flat_map (λ x. ended (name x)) xs in
    let next = at + (length (name x) + 1) in
    let long : length (ended (name x)) ≡ length (name x) + 1 = length-append (name x) (0 ∷ []) ∙ omega arith in
    let whole = length-append (ended (name x)) rest in
    let below : at < 2 ^ 32 = omega (arith, small, whole, long) in
    let own : drop at bytes ≡ name x ++ 0 ∷ rest = e ∙ append_assoc (name x) (0 ∷ []) rest in
    let head : text bytes (offset (entry at x)) ≡ name x =
    ap (text bytes) (is at x below) ∙ text_at bytes (name x) rest at own (All-head (λ x. IsText (name x)) x xs texts) in
    let behind : drop next bytes ≡ rest = sym (drop-drop (length (name x) + 1) at bytes) ∙ (ap (drop (length (name x) + 1)) e ∙ drop_at (ended (name x)) rest (length (name x) + 1) long) in
    ap (λ h. h ∷ map (λ b. text bytes (offset b)) (named_from name entry next xs)) head
    ∙ ap (λ t. name x ∷ t)
    (names_from name entry offset is bytes next xs (All-tail (λ x. IsText (name x)) x xs texts) behind (omega (arith, small, whole, long)))

-- a view that doesn't look at the names' offsets
pub seen_from :
    {A B C : Type 0} (name : A → List ℕ) (entry : ℕ → A → B) (see : B → C) (seen : A → C) → ((at : ℕ) (x : A) → see (entry at x) ≡ seen x) →
    (at : ℕ) (xs : List A) → map see (named_from name entry at xs) ≡ map seen xs
seen_from name entry see seen is at [] = refl
seen_from {A} {B} {C} name entry see seen is at (x ∷ xs) =
    ap (λ h. h ∷ map see (named_from name entry (at + (length (name x) + 1)) xs)) (is at x)
    ∙ ap (λ t. seen x ∷ t) (seen_from name entry see seen is (at + (length (name x) + 1)) xs)
