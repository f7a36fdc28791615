-- The text of a link's own map, list by list, and batch by batch.
use Rattle.std.proofs.Common.{◌≡◌, ◌∙◌, ℕ, suc, ◌+◌, ◌<◌, Bool, true, false, List, [], ◌∷◌, ◌++◌, ap, append_assoc, arith, codes, drop, drop-cons, get_or, length, map, refl, subst, sym, take}
use Rattle.std.specs.Prelude.{Option, None, Some, option_map, option_to_list}
use Rattle.std.specs.Io.KnownBytes.{Appends}
use Rattle.std.specs.List.{flat_map}
use Rattle.std.proofs.lemmas.List.{map-append, take-append-drop}
use Rattle.std.proofs.lemmas.List.Concat.{flat_map-append}
use Rattle.elf_model.specs.Own.ImageFile.{own_end}
use Rattle.elf_model.specs.Link.Loading.{LoadedObject}
use Rattle.elf_model.specs.Image.MapRecord.{MapRecord, SymbolRow}
use Rattle.elf_model.specs.Image.MapText.{Line, body, common_text, drop_text, got_text, line_text, object_text, place_text, slot_text, symbol_text, symtab_text, text, version_text}
use Rattle.elf_model.specs.Link.Meaning.{Meaning}
use Rattle.elf_model.specs.Own.OwnLayout.{own_got, own_slots, own_where}
use Rattle.elf_model.specs.Link.Pieces.{kept_sections}
use Rattle.elf_model.specs.Link.Placement.{round_up}
use Rattle.elf_model.specs.Image.RightLink.{drop_rows, object_rows, symbol_row_of}
use Rattle.elf_model.specs.declared.link_map.SymtabLine.{SymtabLine}
use Rattle.layout.specs.Placements.{Basis}
use Rattle.resolve.specs.Views.{meaning_view, meaning_views}
use Rattle.resolve.specs.declared.definition.Definition as code
use Rattle.image_write.specs.CommonRows.{common_rows_of, own_commons}
use Rattle.image_write.specs.Maps.{own_record, own_row, own_symtab}
use Rattle.image_write.specs.Tables.{HasTable, line_of}
use Rattle.linker.proofs.Behind.{both_put}
use Rattle.image_write.specs.declared.symbol_table.SymbolTable.{SymbolTable}

flat_map-map : {X Y : Type 0} (f : Y → List ℕ) (v : X → Y) (xs : List X) → flat_map f (map v xs) ≡ flat_map (λ x. f (v x)) xs
flat_map-map f v [] = refl
flat_map-map f v (x ∷ xs) = ap (λ (w : List ℕ). f (v x) ++ w) (flat_map-map f v xs)

part :
    {X : Type 0} (kind : X → Line) (xs : List X) (ls : List Line) →
    flat_map line_text (map kind xs ++ ls) ≡ flat_map (λ x. line_text (kind x)) xs ++ flat_map line_text ls
part kind xs ls =
    flat_map-append line_text (map kind xs) ls ∙ ap (λ (w : List ℕ). w ++ flat_map line_text ls) (flat_map-map line_text kind xs)

-- the lines of a map, kind by kind
abbrev pub printed : MapRecord → List ℕ
printed m =
    version_text m.version
    ++ (flat_map object_text m.objects
    ++ (flat_map drop_text m.drops
    ++ (flat_map place_text m.places
    ++ (flat_map common_text m.commons
    ++ (flat_map got_text (option_to_list m.got)
    ++ (flat_map slot_text m.slots ++ (flat_map symbol_text m.symbols ++ (flat_map symtab_text (option_to_list m.symtab) ++ codes "end\n"))))))))

pub text_is : (m : MapRecord) → text m ≡ printed m
unfolding body
text_is m = ap (λ (w : List ℕ). version_text m.version ++ w) (simp (append_assoc, part))

-- the lines of a batch, and of what is left
pub batch_is :
    {K : Type 0} (at : K → Meaning) (spell : List Meaning → List ℕ) (keys : List K) (n : ℕ) (ms : List Meaning) →
    ((xs ys : List Meaning) → spell (xs ++ ys) ≡ spell xs ++ spell ys) → ms ≡ map at (take n keys) →
    spell (map at keys) ≡ spell ms ++ spell (map at (drop n keys))
batch_is {K} at spell keys n ms joins batch =
    ap (λ (ks : List K). spell (map at ks)) (sym (take-append-drop n keys))
    ∙ ap spell (map-append at (take n keys) (drop n keys))
    ∙ joins (map at (take n keys)) (map at (drop n keys))
    ∙ ap (λ (xs : List Meaning). spell xs ++ spell (map at (drop n keys))) (sym batch)

-- the lines of the common blocks among definitions, and those of the definitions
pub commons_join :
    (base : ℕ) (objects : List LoadedObject) (xs ys : List Meaning) →
    flat_map common_text (own_commons base objects (xs ++ ys))
    ≡ flat_map common_text (own_commons base objects xs) ++ flat_map common_text (own_commons base objects ys)
commons_join base objects xs ys =
    ap (flat_map common_text) (flat_map-append (common_rows_of base objects) xs ys)
    ∙ flat_map-append common_text (own_commons base objects xs) (own_commons base objects ys)

pub symbols_join :
    (row : Meaning → SymbolRow) (xs ys : List Meaning) →
    flat_map symbol_text (map row (xs ++ ys)) ≡ flat_map symbol_text (map row xs) ++ flat_map symbol_text (map row ys)
symbols_join row xs ys = ap (flat_map symbol_text) (map-append row xs ys) ∙ flat_map-append symbol_text (map row xs) (map row ys)

-- the lines of the first of the definitions that are left, and of those behind
pub commons_front :
    (base : ℕ) (objects : List LoadedObject) (listed : List code.Definition) (i : ℕ) (d : code.Definition) → i < length listed →
    flat_map common_text (own_commons base objects (meaning_views (drop i listed)))
    ≡ flat_map common_text (common_rows_of base objects (meaning_view (get_or listed i d)))
    ++ flat_map common_text (own_commons base objects (meaning_views (drop (i + 1) listed)))
commons_front base objects listed i d within =
    let e : i + 1 ≡ suc i = omega arith in
    rw e (ap (λ (ds : List code.Definition). flat_map common_text (own_commons base objects (meaning_views ds))) (drop-cons listed i d within)
    ∙ flat_map-append common_text (common_rows_of base objects (meaning_view (get_or listed i d))) (own_commons base objects (meaning_views (drop (suc i) listed))))

pub symbols_front :
    (row : Meaning → SymbolRow) (listed : List code.Definition) (i : ℕ) (d : code.Definition) → i < length listed →
    flat_map symbol_text (map row (meaning_views (drop i listed)))
    ≡ symbol_text (row (meaning_view (get_or listed i d))) ++ flat_map symbol_text (map row (meaning_views (drop (i + 1) listed)))
symbols_front row listed i d within =
    let e : i + 1 ≡ suc i = omega arith in
    rw e (ap (λ (ds : List code.Definition). flat_map symbol_text (map row (meaning_views ds))) (drop-cons listed i d within))

-- the line of the table of what is listed
pub table_line :
    (base : ℕ) (objects : List LoadedObject) (ms : List Meaning) (strip : Bool) (table : Option SymbolTable) →
    HasTable objects (own_end base objects) ms strip table →
    option_map line_of table ≡ own_symtab (record { base = base; objects = objects }) strip ms
table_line base objects ms true None has = refl
table_line base objects ms true (Some t) has = absurd has
table_line base objects ms false None has = absurd has
table_line base objects ms false (Some t) has =
    ap (λ (e : ℕ). Some (line (round_up 8 e) t.count)) has.start ∙ ap (λ (n : ℕ). Some (line (round_up 8 (own_end base objects)) n)) has.count
  where
    line : ℕ → ℕ → SymtabLine
    line offset count = record { offset = offset; count = count }

-- nothing that is listed has a table where none is to be
pub no_table :
    (objects : List LoadedObject) (e : ℕ) (ms ns : List Meaning) (strip : Bool) → HasTable objects e ms strip None → HasTable objects e ns strip None
no_table objects e ms ns true has = tt
no_table objects e ms ns false has = absurd has

-- the lines of objects that are laid out
abbrev pub lined : Basis → List Meaning → List LoadedObject → Option SymtabLine → List ℕ
lined b ms os line =
    version_text 2
    ++ (flat_map object_text (object_rows 0 os)
    ++ (flat_map drop_text (drop_rows 0 os)
    ++ (flat_map place_text (map (own_row b) (kept_sections os))
    ++ (flat_map common_text (own_commons b.base b.objects ms)
    ++ (flat_map got_text (option_to_list (own_got b.base b.objects))
    ++ (flat_map slot_text (own_slots b.base b.objects)
    ++ (flat_map symbol_text (map (symbol_row_of (own_where b.base b.objects)) ms)
    ++ (flat_map symtab_text (option_to_list line) ++ codes "end\n"))))))))

pub own_text_is :
    (b : Basis) (strip : Bool) (ms : List Meaning) (os : List LoadedObject) (line : Option SymtabLine) → os ≡ b.objects → line ≡ own_symtab b strip ms →
    lined b ms os line ≡ text (own_record b strip ms)
own_text_is b strip ms os line e f =
    ap (λ (xs : List LoadedObject). lined b ms xs line) e ∙ ap (lined b ms b.objects) f ∙ sym (text_is (own_record b strip ms))

-- the lines put behind a text, one kind after the other
pub lines_put :
    (b : Basis) (strip : Bool) (ms : List Meaning) (os : List LoadedObject) (line : Option SymtabLine) (a c d e f g h i j k l : Option (List ℕ)) →
    os ≡ b.objects → line ≡ own_symtab b strip ms →
    Appends a c (version_text 2) → Appends c d (flat_map object_text (object_rows 0 os)) → Appends d e (flat_map drop_text (drop_rows 0 os)) →
    Appends e f (flat_map place_text (map (own_row b) (kept_sections os))) → Appends f g (flat_map common_text (own_commons b.base b.objects ms)) →
    Appends g h (flat_map got_text (option_to_list (own_got b.base b.objects))) → Appends h i (flat_map slot_text (own_slots b.base b.objects)) →
    Appends i j (flat_map symbol_text (map (symbol_row_of (own_where b.base b.objects)) ms)) → Appends j k (flat_map symtab_text (option_to_list line)) →
    Appends k l (codes "end\n") → Appends a l (text (own_record b strip ms))
lines_put b strip ms os line a c d e f g h i j k l same table version objects drops places commons got slots symbols symtab end =
    subst (Appends a l) (own_text_is b strip ms os line same table)
    (both_put a c l (version_text 2) _ version
    (both_put c d l (flat_map object_text (object_rows 0 os)) _ objects
    (both_put d e l (flat_map drop_text (drop_rows 0 os)) _ drops
    (both_put e f l (flat_map place_text (map (own_row b) (kept_sections os))) _ places
    (both_put f g l (flat_map common_text (own_commons b.base b.objects ms)) _ commons
    (both_put g h l (flat_map got_text (option_to_list (own_got b.base b.objects))) _ got
    (both_put h i l (flat_map slot_text (own_slots b.base b.objects)) _ slots
    (both_put i j l (flat_map symbol_text (map (symbol_row_of (own_where b.base b.objects)) ms)) _ symbols
    (both_put j k l (flat_map symtab_text (option_to_list line)) (codes "end\n") symtab end)))))))))
