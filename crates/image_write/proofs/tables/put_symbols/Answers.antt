use Rattle.std.proofs.Common.{◌≡◌, ◌∙◌, ◌∷◌, [], ◌++◌, List, ℕ, ap, append_assoc, refl, sym}
use Rattle.elf_model.specs.Link.Loading.{LoadedObject}
use Rattle.elf_model.specs.Inputs.Records.{symbol_bytes}
use Rattle.elf_model.specs.Inputs.ObjectFile.{null_symbol}
use Rattle.elf_model.specs.declared.records.Symbol.{Symbol}
use Rattle.image_write.specs.Tables.{entry_bytes, listed_of, name_bytes, objects_of, where_of}
use Rattle.image_write.proofs.StreamLaws.{puts_are}
use Rattle.image_write.proofs.StreamSteps.{towards_fault, towards_last, towards_more, towards_nothing}
use Rattle.image_write.proofs.tables.put_symbols.Goals as goal

-- the two sections, part by part
parts_are :
    (z : Symbol) (es ns : List ℕ) → z ≡ null_symbol → (symbol_bytes null_symbol ++ es) ++ (0 ∷ ns) ≡ symbol_bytes z ++ (es ++ ((0 ∷ []) ++ ns))
parts_are z es ns is =
    append_assoc (symbol_bytes null_symbol) es (0 ∷ ns) ∙ ap (λ (s : Symbol). symbol_bytes s ++ (es ++ (0 ∷ ns))) (sym is)

pub returns-in_err-put_symbol : goal.returns-in_err-put_symbol
returns-in_err-put_symbol g c =
    let n = c.args.names.now in
    towards_fault _ _ _ _ _ _ _ _ (towards_nothing _ _)
    (parts_are null_symbol (entry_bytes (where_of n) (objects_of n) 1 (listed_of n)) (name_bytes (objects_of n) (listed_of n)) refl)
    c.from_residual.ensures.0 c.in_err-put_symbol.ensures.breaks

pub returns-in_err-put_entries : goal.returns-in_err-put_entries
returns-in_err-put_entries g c =
    let n = c.args.names.now in
    towards_fault _ _ _ _ _ _ _ _
    (towards_more _ _ _ _ _ _ _ (towards_nothing _ _)
    (parts_are null_symbol (entry_bytes (where_of n) (objects_of n) 1 (listed_of n)) (name_bytes (objects_of n) (listed_of n)) refl)
    c.in_ok-put_symbol.ensures.grows)
    refl c.from_residual-in_err-put_entries.ensures.0 c.in_err-put_entries.ensures.breaks

pub returns-in_err-put : goal.returns-in_err-put
returns-in_err-put g c =
    let n = c.args.names.now in
    towards_fault _ _ _ _ _ _ _ _
    (towards_more _ _ _ _ _ _ _
    (towards_more _ _ _ _ _ _ _ (towards_nothing _ _)
    (parts_are null_symbol (entry_bytes (where_of n) (objects_of n) 1 (listed_of n)) (name_bytes (objects_of n) (listed_of n)) refl)
    c.in_ok-put_symbol.ensures.grows)
    refl c.in_ok-put_entries.ensures.grows)
    refl c.from_residual-in_err-put.ensures.0 c.in_err-put.ensures.breaks

pub returns : goal.returns
returns g c =
    let n = c.args.names.now in
    towards_last _ _ _ _ _ _
    (towards_more _ _ _ _ _ _ _
    (towards_more _ _ _ _ _ _ _
    (towards_more _ _ _ _ _ _ _ (towards_nothing _ _)
    (parts_are null_symbol (entry_bytes (where_of n) (objects_of n) 1 (listed_of n)) (name_bytes (objects_of n) (listed_of n)) refl)
    c.in_ok-put_symbol.ensures.grows)
    refl c.in_ok-put_entries.ensures.grows)
    refl c.in_ok-put.ensures.grows)
    (puts_are _ _ _ _ _ (ap (λ (os : List LoadedObject). name_bytes os (listed_of n)) (sym c.requires.names.objects)) c.put_names.ensures)
