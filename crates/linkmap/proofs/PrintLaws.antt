-- The text of a map, list by list.
use Rattle.std.proofs.Common.{◌≡◌, ℕ, ◌+◌, ◌<◌, List, [], ◌∷◌, ◌++◌, map, length, get_or, take, refl, ap, ◌∙◌, subst, codes}
use Rattle.std.specs.Prelude.{option_to_list, All}
use Rattle.std.specs.List.{flat_map}
use Rattle.std.proofs.lemmas.List.{append_assoc}
use Rattle.std.proofs.lemmas.List.Elements.{All-more, All-map}
use Rattle.std.proofs.lemmas.List.Concat.{flat_map-append}
use Rattle.elf_model.specs.declared.link_map.LinkMap.{LinkMap}
use Rattle.elf_model.specs.Image.MapRecord.{map_of, object_row, place_row, common_row, slot_row, symbol_row}
use Rattle.elf_model.specs.Image.MapText.{Line, line_text, version_text, object_text, drop_text, place_text, common_text, got_text, slot_text, symbol_text, symtab_text, body, text}

flat_map-map : {X Y : Type 0} (f : Y → List ℕ) (v : X → Y) (xs : List X) → flat_map f (map v xs) ≡ flat_map (λ x. f (v x)) xs
flat_map-map f v [] = refl
flat_map-map f v (x ∷ xs) = ap (λ w. f (v x) ++ w) (flat_map-map f v xs)

abbrev pub printed : LinkMap → List ℕ
printed m = version_text m.version ++ (flat_map (λ o. object_text (object_row o)) m.objects.items ++ (flat_map drop_text m.drops.items ++ (flat_map (λ p. place_text (place_row p)) m.places.items ++ (flat_map (λ c. common_text (common_row c)) m.commons.items ++ (flat_map got_text (option_to_list m.got) ++ (flat_map (λ s. slot_text (slot_row s)) m.slots.items ++ (flat_map (λ s. symbol_text (symbol_row s)) m.symbols.items ++ (flat_map symtab_text (option_to_list m.symtab) ++ codes "end\n"))))))))

-- a text that lines were put behind, and what comes behind them
pub ahead : {X : Type 0} (f : X → List ℕ) (ys xs : List X) (old new rest : List ℕ) → ys ≡ xs → new ≡ old ++ flat_map f ys → new ++ rest ≡ old ++ (flat_map f xs ++ rest)
ahead f ys xs old new rest e h = ap (λ w. w ++ rest) (h ∙ ap (λ w. old ++ flat_map f w) e) ∙ append_assoc old (flat_map f xs) rest

pub first : (old new line rest : List ℕ) → old ≡ [] → new ≡ old ++ line → new ++ rest ≡ line ++ rest
first old new line rest e h = ap (λ w. w ++ rest) (h ∙ ap (λ w. w ++ line) e)

-- a list of lines in front
part : {X : Type 0} (kind : X → Line) (xs : List X) (ls : List Line) → flat_map line_text (map kind xs ++ ls) ≡ flat_map (λ x. line_text (kind x)) xs ++ flat_map line_text ls
part kind xs ls = flat_map-append line_text (map kind xs) ls ∙ ap (λ w. w ++ flat_map line_text ls) (flat_map-map line_text kind xs)

seen_part : {X Y : Type 0} (kind : Y → Line) (view : X → Y) (xs : List X) (ls : List Line) → flat_map line_text (map kind (map view xs) ++ ls) ≡ flat_map (λ x. line_text (kind (view x))) xs ++ flat_map line_text ls
seen_part kind view xs ls = part kind (map view xs) ls ∙ ap (λ w. w ++ flat_map line_text ls) (flat_map-map (λ y. line_text (kind y)) view xs)

pub text_is : (m : LinkMap) → text (map_of m) ≡ printed m
unfolding body
text_is m = ap (λ w. version_text m.version ++ w) (simp (append_assoc, seen_part, part))

-- what holds of the elements passed, and of one more
pub all_more : {X : Type 0} (P : X → Type 0) (xs : List X) (i : ℕ) (x : X) → i < length xs → x ≡ get_or xs i x → All P (take i xs) → P x → All P (take (i + 1) xs)
all_more P xs i x l e h p = All-more P xs i x l h (subst P e p)

-- and of all, seen through their rows
pub all_seen : {X Y : Type 0} (P : Y → Type 0) (v : X → Y) (ys xs : List X) → ys ≡ xs → All (λ x. P (v x)) ys → All P (map v xs)
all_seen P v ys xs e h = subst (λ w. All P (map v w)) e (All-map P v ys h)
