use Rattle.std.proofs.Common.{◌≡◌, true, false}
use Rattle.std.specs.Prelude.{filter, map}
use Rattle.std.proofs.lemmas.List.Elements.{All-append, All-map}
use Rattle.elf_model.specs.Link.Placement as placement
use Rattle.elf_model.specs.Link.Placement.{got_things, thing_of}
use Rattle.elf_model.specs.Image.RightLink.{IsClearOf}
use Rattle.elf_model.specs.declared.thing.Thing.{Thing}
use Rattle.elf_model.proofs.Listed.{All-parts, All-unmap}
use Rattle.checker.specs.ThreadBlock.{IsPlaceClear, is_other_place}
use Rattle.check_link.specs.Views.{placed_view, placed_views}
use Rattle.checker.proofs.Filtered.{All-filter, All-unfilter}
use Rattle.checker.proofs.c08_thread_block.are_others_clear_of.Goals as goal

pub returns-then-not-is_got_clear_of : goal.returns-then-not-is_got_clear_of
returns-then-not-is_got_clear_of c =
    let Clear : Thing → Type 0 = IsClearOf c.args.start c.args.end in
    let others = filter is_other_place (placed_views c.args.placed.now) in (
      λ e. absurd (let f : false ≡ true = e in cc),
      λ all. absurd
          (let f : false ≡ true = c.if-not-is_got_clear_of.ensures.1 (All-parts Clear (got_things c.args.got.now) (map thing_of others) all).0 in cc),
    )

pub returns : goal.returns
returns c =
    let Clear : Thing → Type 0 = IsClearOf c.args.start c.args.end in
    let ClearIf : placement.Placed → Type 0 = IsPlaceClear c.args.start c.args.end in
    let placed = c.args.placed.now in
    let others = filter is_other_place (placed_views placed) in (
      λ e. All-append Clear (got_things c.args.got.now) (map thing_of others) (c.is_got_clear_of.ensures.0 c.if-not-is_got_clear_of.false)
          (All-map Clear thing_of others
          (All-filter is_other_place (λ (q : placement.Placed). Clear (thing_of q)) (placed_views placed)
          (All-map ClearIf placed_view placed (c.are_places_clear_of.ensures.0 e)))),
      λ all. c.are_places_clear_of.ensures.1
          (All-unmap ClearIf placed_view placed
          (All-unfilter is_other_place (λ (q : placement.Placed). Clear (thing_of q)) (placed_views placed)
          (All-unmap Clear thing_of others (All-parts Clear (got_things c.args.got.now) (map thing_of others) all).1))),
    )
