use Rattle.std.proofs.Common.{◌∙◌}
use Rattle.std.specs.Option.{option_map}
use Rattle.krb_msg.proofs.Noted.{none-have}
use Rattle.krb_codec.proofs.notes.no_optional_notes.Goals as goal

pub returns : goal.returns
returns g c = c.none.ensures ∙ none-have g.T.Item.term c.requires.no_list c.requires.none (option_map g.T.Item.value c.args._field.now)
