use Rattle.std.proofs.Common.{◌≡◌, ℕ, Option, ap, refl, subst, sym}
use Rattle.std.specs.Prelude.{IfSome, IsSome}
use Rattle.std.proofs.lemmas.Bool.{false≢true}
use Rattle.elf_model.specs.Inputs.ObjectFile.{IsObject}
use Rattle.elf_model.specs.Inputs.Opening.{Opened, archive_data, archive_entries}
use Rattle.search.specs.Views.{loaded_views}
use Rattle.archive_notes.specs.ArchiveNotes.{IsFact}
use Rattle.archive_notes.specs.declared.note.ArchiveFact.{ArchiveFact}
use Rattle.archive_notes.proofs.NoteLaws.{entry_there, no_entry, some_entry}
use Rattle.archive_notes.proofs.notes.note_at.Goals as goal

pub returns-then-not-is_of-clause-none : goal.returns-then-not-is_of-clause-none
returns-then-not-is_of-clause-none c =
    no_entry (archive_entries c.args.archive.now.bytes) c.args.i c.index-entries-i.result
    (λ e. (e.name ≡ c.args.name.now) × IsObject (archive_data c.args.archive.now.bytes e.offset))
    (entry_there c.args.entries.now _ c.args.i c.index-entries-i.result c.requires.entries c.requires.inside c.index-entries-i.is)
    (λ p. false≢true (c.if-not-is_of.ensures.1 p.0))

pub returns-in_default-clause-none : goal.returns-in_default-clause-none
returns-in_default-clause-none c =
    no_entry (archive_entries c.args.archive.now.bytes) c.args.i c.index-entries-i.result
    (λ e. (e.name ≡ c.args.name.now) × IsObject (archive_data c.args.archive.now.bytes e.offset))
    (entry_there c.args.entries.now _ c.args.i c.index-entries-i.result c.requires.entries c.requires.inside c.index-entries-i.is)
    (λ p. false≢true (subst IsSome c.in_default.is (c.in_ok-fact.ensures.told (subst (λ (o : ℕ). IsObject (archive_data c.args.archive.now.bytes o)) (sym c.offset-offset.ensures) p.1))))

pub returns-clause-so : goal.returns-clause-so
returns-clause-so c = (
  refl,
  record {
    archive = c.requires.archive;
    number = ap (λ (o : Opened). o.number) c.item-item.ensures;
    path = ap (λ (o : Opened). o.path) c.item-item.ensures;
    indexed = (
      c.args.i,
      some_entry (archive_entries c.args.archive.now.bytes) c.args.i c.index-entries-i.result
          (λ e. (e.name ≡ c.args.name.now) × (c.offset-offset.result ≡ e.offset))
          (entry_there c.args.entries.now _ c.args.i c.index-entries-i.result c.requires.entries c.requires.inside c.index-entries-i.is)
          (c.if-not-is_of.ensures.0 refl, c.offset-offset.ensures),
    );
    fact_is =
        subst (λ (o : Option ArchiveFact). IfSome o (IsFact (loaded_views c.args.objects.now) c.args.archive.now c.args.name.now c.offset-offset.result))
        c.in-Some.is c.in_ok-fact.ensures.holds;
  },
)
