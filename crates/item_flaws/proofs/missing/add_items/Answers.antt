use Rattle.std.proofs.Common.{◌+◌, List, arith, drop, refl, subst, sym}
use Rattle.std.specs.Prelude.{map}
use Rattle.command.specs.Views.{item_of, texts_of}
use Rattle.elf_model.specs.Inputs.Command.{Item}
use Rattle.flaws.proofs.Additions.{one_more}
use Rattle.flaws.specs.Flaws.{AreAdded}
use Rattle.opening.specs.Held.{all_files}
use Rattle.item_flaws.proofs.ItemWalks.{next_numbered, none_left}
use Rattle.item_flaws.specs.ItemFlaws.{AddsMissing, numbered}
use Rattle.item_flaws.proofs.missing.add_items.Goals as goal

pub loop-i-preserved : goal.loop-i-preserved
loop-i-preserved c =
    let Of = AddsMissing (all_files c.args.files.now) (texts_of c.args.directories.now) in
    let xs = c.args.items.now in
    let i = c.loop-i.i in
    one_more Of (AreAdded Of (numbered 0 (map item_of xs)) c.args.flaws.now.items) (numbered i (map item_of (drop i xs))) (numbered (i + 1) (map item_of (drop (i + 1) xs)))
    c.loop-i.flaws.items c.add_item.new.flaws.items c.loop-i.invariant _ (next_numbered xs i _ c.loop-i-test.true) c.in_ok-add_item.ensures

pub returns : goal.returns
returns c =
    let end = c.loop-i.flaws.items in
    c.loop-i.invariant end (subst (λ (xs : List Item). AreAdded (AddsMissing (all_files c.args.files.now) (texts_of c.args.directories.now)) (numbered c.loop-i.i xs) end end) (sym (none_left c.args.items.now c.loop-i.i (omega (arith, c.loop-i-test.false)))) refl)
