-- The LOCAL symbols of an image for tools are its first ones.
use Rattle.std.proofs.Common.{◌≡◌, ◌+◌, ◌∙◌, ℕ, List, [], ◌∷◌, ap, length, refl, sym}
use Rattle.std.specs.Prelude.{All, Bool, None, Option, Some, cond, false, true, ◌==◌, option_map}
use Rattle.std.specs.List.{cons_option, filter_map}
use Rattle.std.specs.Option.{option_and_then}
use Rattle.std.proofs.lemmas.Bool.{and_parts}
use Rattle.std.proofs.lemmas.List.Elements.{All-append, All-cons, All-nil}
use Rattle.std.proofs.lemmas.Option.{none-some, same_Some}
use Rattle.elf_model.specs.Link.Meaning.{Common, Linker, Meaning, Symbol}
use Rattle.elf_model.specs.Link.Pieces.{Piece}
use Rattle.elf_model.specs.Link.Resolution.{SymbolOf, binding, is_absolute, symbols_from}
use Rattle.elf_model.specs.Inputs.ObjectFile.{symbols}
use Rattle.elf_model.specs.Link.Loading.{LoadedObject}
use Rattle.elf_model.specs.declared.constants.TheConstants.{STB_LOCAL}
use Rattle.debug_image.specs.Symbols.{Laid, address_of, absolute_row, block_entry, is_wanted, linker_row, local_row, local_rows, object_rows, own_rows, rows_from, meaning_row, meaning_rows, named_row, placed_row, row_at, row_in, symbol_piece, symbol_row}
use Rattle.debug_image.specs.LongNames.{has_long_names}
use Rattle.debug_image.specs.Sections.{blocks_number}
use Rattle.debug_image.specs.Tables.{Row}
use Rattle.elf_model.specs.declared.records.Symbol as code
use Rattle.debug_law.specs.ReadImages.{is_local}
use Rattle.debug_law.proofs.JoinedNames.{both}

-- all that are given
pub all_given : {X : Type 0} (P : Row → Type 0) (f : X → Option Row) → ((x : X) (r : Row) → f x ≡ Some r → P r) → (xs : List X) → All P (filter_map f xs)
all_given P f given [] = All-nil P
all_given {X} P f given (x ∷ xs) = with_one (f x) (filter_map f xs) (given x) (all_given P f given xs)
  where
    with_one : (o : Option Row) (rs : List Row) → ((r : Row) → o ≡ Some r → P r) → All P rs → All P (cons_option o rs)
    with_one None rs own rest = rest
    with_one (Some r) rs own rest = All-cons P r rs (own r refl) rest

-- a symbol keeps its binding
mapped_binding : (s : SymbolOf) (l : Laid) (at : ℕ) (o : Option Piece) (r : Row) → option_map (row_in l s at) o ≡ Some r → binding r.entry ≡ binding s.entry
mapped_binding s l at None r e = absurd (none-some r e)
mapped_binding s l at (Some p) r e = ap (λ (q : Row). binding q.entry) (sym (same_Some (row_in l s at p) r e))

placed_binding : (s : SymbolOf) (l : Laid) (o : Option ℕ) (r : Row) → option_and_then (row_at l s) o ≡ Some r → binding r.entry ≡ binding s.entry
placed_binding s l None r e = absurd (none-some r e)
placed_binding s l (Some at) r e = mapped_binding s l at (symbol_piece l.objects s) r e

kept_binding : (l : Laid) (s : SymbolOf) (r : Row) → symbol_row l s ≡ Some r → binding r.entry ≡ binding s.entry
kept_binding l s r e =
    both (λ b. cond b (Some (absolute_row s.name s.entry)) (option_and_then (row_at l s) (address_of l s.object s.entry.st_shndx)) ≡ Some r → binding r.entry ≡ binding s.entry)
    (is_absolute s.entry)
    (λ t u. ap (λ (q : Row). binding q.entry) (sym (same_Some (absolute_row s.name s.entry) r u)))
    (λ f u. placed_binding s l (address_of l s.object s.entry.st_shndx) r u) e

local_is : (l : Laid) (s : SymbolOf) (r : Row) → local_row l s ≡ Some r → is_local r ≡ true
local_is l s r e =
    both (λ b. is_wanted s ≡ b → cond b (symbol_row l s) None ≡ Some r → is_local r ≡ true) (is_wanted s)
    (λ t u v. ap (λ b. b == STB_LOCAL) (kept_binding l s r v) ∙ (and_parts (binding s.entry == STB_LOCAL) _ t).0)
    (λ t u v. absurd (none-some r v)) refl e

-- what each LOCAL symbol's row is, all rows are
pub all_local : (P : Row → Type 0) (l : Laid) → ((s : SymbolOf) (r : Row) → local_row l s ≡ Some r → P r) → All P (local_rows l)
all_local P l given = from 0 l.objects
  where
    of : (k : ℕ) (o : LoadedObject) (b : Bool) → All P (cond b [] (own_rows l k o))
    of k o true = All-nil P
    of k o false = all_given P (local_row l) given (symbols_from k o 0 (symbols o.bytes))

    from : (k : ℕ) (os : List LoadedObject) → All P (rows_from l k os)
    from k [] = All-nil P
    from k (o ∷ os) = All-append P (object_rows l k o) (rows_from l (k + 1) os) (of k o (has_long_names o)) (from (k + 1) os)

pub locals_local : (l : Laid) → All (λ r. is_local r ≡ true) (local_rows l)
locals_local l = all_local (λ r. is_local r ≡ true) l (local_is l)

named_is : (l : Laid) (s : SymbolOf) (r : Row) → named_row l s ≡ Some r → is_local r ≡ false
named_is l s r e =
    both (λ b. binding s.entry == STB_LOCAL ≡ b → cond b None (symbol_row l s) ≡ Some r → is_local r ≡ false) (binding s.entry == STB_LOCAL)
    (λ t u v. absurd (none-some r v))
    (λ f u v. ap (λ b. b == STB_LOCAL) (kept_binding l s r v) ∙ f) refl e

block_binding : (name : List ℕ) (e : code.Symbol) (k at : Option ℕ) (r : Row) → option_map (placed_row name e k) at ≡ Some r → binding r.entry ≡ binding e
block_binding name e k None r is = absurd (none-some r is)
block_binding name e k (Some at) r is = ap (λ (q : Row). binding q.entry) (sym (same_Some (placed_row name e k at) r is))

meaning_is : (l : Laid) (m : Meaning) (r : Row) → meaning_row l m ≡ Some r → is_local r ≡ false
meaning_is l (Symbol s) r e = named_is l s r e
meaning_is l (Common b) r e =
    ap (λ k. k == STB_LOCAL) (block_binding b.name (block_entry b) (blocks_number (length l.objects) l.sections) (address_of l b.object b.number) r e)
meaning_is l (Linker name bound) r e = ap is_local (sym (same_Some (linker_row name _) r e))

pub meanings_not_local : (l : Laid) (ms : List Meaning) → All (λ r. is_local r ≡ false) (meaning_rows l ms)
meanings_not_local l ms = all_given (λ r. is_local r ≡ false) (meaning_row l) (meaning_is l) ms
