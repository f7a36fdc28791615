use Rattle.resolve.proofs.definition_list.unsound.Goals as goal

pub returns : goal.returns
returns c = λ sound.
    c.requires (λ i d within. (sound i d within, c.are_sound_commons.ensures.0 c.if-not-are_sound_commons.false i d within))
