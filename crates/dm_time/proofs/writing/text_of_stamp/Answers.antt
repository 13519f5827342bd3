use Rattle.std.proofs.Common.{◌++◌, ◌∙◌, ap}
use Rattle.dm_time.specs.Written.{stamp_text}
use Rattle.dm_time.proofs.StampTexts.{stamp_text_is_read}
use Rattle.dm_time.proofs.writing.text_of_stamp.Goals as goal

pub returns : goal.returns
returns c =
    stamp_text_is_read c.args.digits c.args.stamp.now c.new.result c.requires.digits c.requires.fits (c.new.ensures ∙ c.in_ok-push_stamp.ensures ∙ ap (λ front. front ++ stamp_text c.args.digits c.args.stamp.now) c.new-text.ensures.items)
