use Rattle.std.proofs.Common.{◌∙◌, List, subst, sym}
use Rattle.std.specs.Prelude.{All}
use Rattle.std.proofs.lemmas.Bool.{false≢true}
use Rattle.std.proofs.lemmas.List.Elements.{All-nil}
use Rattle.explain.specs.Notes.{IsNote}
use Rattle.explain.specs.declared.notes.Note.{Note}
use Rattle.explain.proofs.Told.{resolves}
use Rattle.explain.proofs.link.add_loaded.Goals as goal

pub returns : goal.returns
returns c =
    let l = c.args.loaded.now in
    let told = c.in_ok-tell_resolution-in-Err.ensures in
    record {
      places = told.so;
      notes = subst (λ (ns : List Note). All (IsNote l) ns) (sym c.new-2.ensures.items) (All-nil (IsNote l));
      resolution = λ bad. told.told;
      references =
          λ good bad.
          absurd
          (resolves l.objects c.in-Err.fault (λ is. false≢true (sym c.if-lacks_memory.false ∙ c.lacks_memory.ensures.1 is)) c.in-Err.ensures.fault good);
    }
