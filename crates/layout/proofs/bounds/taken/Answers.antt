use Rattle.std.proofs.Common.{◌∙◌, ◌+◌, ap, cond, max, sym}
use Rattle.std.specs.Prelude.{Option, Some, option_map}
use Rattle.std.specs.Option.{option_map_or}
use Rattle.std.specs.Str.{bytes_eq}
use Rattle.elf_model.specs.Link.LinkerValues.{least_of}
use Rattle.layout.specs.PieceParts.{IsLast, extent_in, extent_with}
use Rattle.placing.specs.PlaceViews.{place_view}
use Rattle.layout.specs.declared.bounds.Extent.{Extent}
use Rattle.layout.proofs.ExtentSteps.{last_at, last_more, taken_end, taken_start}
use Rattle.layout.proofs.bounds.taken.Goals as goal

pub returns-in-Some-clause-start : goal.returns-in-Some-clause-start
returns-in-Some-clause-start c =
    let last = c.args.last.now in
    let table = c.args.extents.now in
    let name = c.output_name-name.result.now in
    let is : IsLast last name c.in-Some.extent = c.in-Some.ensures in
    taken_start (extent_with last table) (λ n. cond (bytes_eq name n) (Some c.grown.result) (extent_in table n)) name c.grown.result
    (place_view c.args.place.now) c.output_name-name.ensures
    (λ n. last_more last table name c.in-Some.extent c.grown.result is n)
    (c.grown.ensures.start ∙ ap (λ (o : Option Extent). least_of c.args.place.now.at (option_map (λ (x : Extent). x.start) o)) (sym (last_at last table name c.in-Some.extent is)))

pub returns-in-Some-clause-end : goal.returns-in-Some-clause-end
returns-in-Some-clause-end c =
    let place = place_view c.args.place.now in
    let last = c.args.last.now in
    let table = c.args.extents.now in
    let name = c.output_name-name.result.now in
    let is : IsLast last name c.in-Some.extent = c.in-Some.ensures in
    taken_end (extent_with last table) (λ n. cond (bytes_eq name n) (Some c.grown.result) (extent_in table n)) name c.grown.result
    place c.output_name-name.ensures
    (λ n. last_more last table name c.in-Some.extent c.grown.result is n)
    (c.grown.ensures.end ∙ ap (λ (o : Option Extent). max (option_map_or (λ (x : Extent). x.end) o 0) (place.at + place.piece.size)) (sym (last_at last table name c.in-Some.extent is)))

pub returns-clause-start : goal.returns-clause-start
returns-clause-start c =
    let last = c.args.last.now in
    let table = c.args.extents.now in
    let name = c.output_name-name.result.now in
    taken_start (extent_with last table) (λ n. cond (bytes_eq name n) (Some c.grown-2.result) (extent_in c.put_last.new.extents n)) name c.grown-2.result
    (place_view c.args.place.now) c.output_name-name.ensures
    (λ n. ap (cond (bytes_eq name n) (Some c.grown-2.result)) (c.in_ok-put_last.ensures n))
    (c.grown-2.ensures.start
    ∙ ap (λ (o : Option Extent). least_of c.args.place.now.at (option_map (λ (x : Extent). x.start) o)) (c.extent_of.ensures ∙ c.in_ok-put_last.ensures name))

pub returns-clause-end : goal.returns-clause-end
returns-clause-end c =
    let place = place_view c.args.place.now in
    let last = c.args.last.now in
    let table = c.args.extents.now in
    let name = c.output_name-name.result.now in
    taken_end (extent_with last table) (λ n. cond (bytes_eq name n) (Some c.grown-2.result) (extent_in c.put_last.new.extents n)) name c.grown-2.result
    place c.output_name-name.ensures
    (λ n. ap (cond (bytes_eq name n) (Some c.grown-2.result)) (c.in_ok-put_last.ensures n))
    (c.grown-2.ensures.end
    ∙ ap (λ (o : Option Extent). max (option_map_or (λ (x : Extent). x.end) o 0) (place.at + place.piece.size)) (c.extent_of.ensures ∙ c.in_ok-put_last.ensures name))
