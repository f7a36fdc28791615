use Rattle.std.proofs.Common.{◌∙◌, ℕ, [], ap, sym, unwrap_or}
use Rattle.elf_model.specs.Inputs.ObjectFile.{symbol_name}
use Rattle.elf_model.specs.Link.Relocation.{relocation_of}
use Rattle.relocate.specs.SymbolTables.{all_of, referring}
use Rattle.relocate.proofs.lawful_fields.lawful_field.Goals as goal

pub returns-in-Err-clause-fault : goal.returns-in-Err-clause-fault
returns-in-Err-clause-fault c =
    let r = c.args.referrer.now in
    c.refusal.ensures (all_of r) (relocation_of r.number (referring r) c.args.target.number c.args.entry.now) c.in-Err.ensures.fault
    (sym (c.symbol_name.ensures ∙ ap (λ (j : ℕ). unwrap_or (symbol_name (referring r).bytes j) []) c.symbol-symbol.ensures))
