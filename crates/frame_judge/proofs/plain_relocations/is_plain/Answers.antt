use Rattle.std.proofs.Common.{refl, sym, ◌∙◌}
use Rattle.std.proofs.lemmas.Bool.{false≢true}
use Rattle.check_load.specs.KeptRelocations.{relocation_at}
use Rattle.check_load.specs.Views.{loaded_view}
use Rattle.frame_judge.proofs.plain_relocations.is_plain.Goals as goal

pub returns-then-not-is_begin : goal.returns-then-not-is_begin
returns-then-not-is_begin c =
    let r = relocation_at c.args.number (loaded_view c.args.loaded.now) c.args.relocation.now in (
      λ t. record {
        place = (c.is_place_plain.ensures r refl).0 c.if-not-is_place_plain.false;
        unnamed = sym c.names_frames.ensures ∙ c.if-names_frames.false;
        local = λ begins. absurd (false≢true (sym c.if-not-is_begin.true ∙ (c.is_begin.ensures r refl refl refl).1 begins));
      },
      λ plain. refl,
    )

pub returns : goal.returns
returns c =
    let r = relocation_at c.args.number (loaded_view c.args.loaded.now) c.args.relocation.now in (
      λ t. record {
        place = (c.is_place_plain.ensures r refl).0 c.if-not-is_place_plain.false;
        unnamed = sym c.names_frames.ensures ∙ c.if-names_frames.false;
        local = λ begins. sym (c.has_local_symbol.ensures c.args.number) ∙ t;
      },
      λ plain. c.has_local_symbol.ensures c.args.number ∙ plain.local ((c.is_begin.ensures r refl refl refl).0 c.if-not-is_begin.false),
    )
