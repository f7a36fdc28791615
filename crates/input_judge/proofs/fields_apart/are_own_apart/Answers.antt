use Rattle.std.proofs.Common.{subst, sym}
use Rattle.std.specs.Prelude.{All, AllPairs}
use Rattle.check_load.specs.Views.{loaded_view}
use Rattle.elf_model.specs.Link.Relocation.{relocations_from}
use Rattle.input_judge.specs.Apart.{AreApart, HasByte}
use Rattle.input_judge.proofs.ApartLaws.{have_bytes, own_apart}
use Rattle.input_judge.proofs.fields_apart.are_own_apart.Goals as goal

pub are_apart-requires : goal.are_apart-requires
are_apart-requires c =
    subst (All HasByte) (sym c.in_ok-fields.ensures) (have_bytes c.args.drops.now (relocations_from c.args.number (loaded_view c.args.loaded.now)))

pub returns : goal.returns
returns c =
    let both = own_apart c.args.drops.now c.args.number (loaded_view c.args.loaded.now) in (
      λ t. both.0 (subst (AllPairs AreApart) c.in_ok-fields.ensures (c.in_ok-apart.ensures.0 t)),
      λ h. c.in_ok-apart.ensures.1 (subst (AllPairs AreApart) (sym c.in_ok-fields.ensures) (both.1 h)),
    )
