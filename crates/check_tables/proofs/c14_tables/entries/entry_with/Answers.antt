use Rattle.std.proofs.Common.{Option, ap, refl, sym, ◌∙◌}
use Rattle.std.specs.Prelude.{option_map}
use Rattle.linkmap.specs.Borrowed.{symbol_row}
use Rattle.check_link.specs.Views.{meaning_view}
use Rattle.check_link.specs.declared.things.Meaning as code
use Rattle.check_tables.proofs.TableEntries.{linker_some}
use Rattle.check_tables.proofs.c14_tables.entries.entry_with.Goals as goal

pub returns-in-None-clause-some : goal.returns-in-None-clause-some
returns-in-None-clause-some c =
    let none = sym c.requires.meaning ∙ ap (λ (m : Option code.Meaning). option_map meaning_view m) c.in-None.is in
    linker_some c.args.bindings.now.objects c.args.bindings.now.places (symbol_row c.args.line.now) c.args.name_at c.args.line.now.address _ c.requires.line none
    refl c.linkers_entry.ensures.fits c.linkers_entry.ensures.entry
