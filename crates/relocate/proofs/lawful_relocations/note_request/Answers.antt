use Rattle.std.proofs.Common.{◌≡◌, sym, ◌∙◌}
use Rattle.std.specs.Prelude.{OnOk}
use Rattle.elf_model.specs.Link.Relocation.{relocation_of}
use Rattle.got_tls.specs.Askers.{all_asked, asking}
use Rattle.got_tls.specs.Asking.{with_relocation}
use Rattle.got_tls.specs.AskedViews.{wants}
use Rattle.relocate.specs.SymbolTables.{all_of, referring}
use Rattle.relocate.proofs.SymbolTables.{moved}
use Rattle.relocate.proofs.lawful_relocations.note_request.Goals as goal

pub returns : goal.returns
returns c =
    let r = c.args.referrer.now in
    moved (λ os n o. OnOk c.add_entry.result (wants c.add_entry.new.asked ≡ with_relocation os (wants c.args.asked.now) (relocation_of n o c.args.target c.args.entry.now)))
    (all_asked r.asker) (all_of r) r.asker.number r.number (asking r.asker) (referring r) c.requires.known.asked_all c.requires.known.asked_number c.requires.known.asked_own
    c.add_entry.ensures

pub add_entry-requires-clause-same : goal.add_entry-requires-clause-same
add_entry-requires-clause-same c = c.requires.same ∙ sym c.requires.known.asked_all
