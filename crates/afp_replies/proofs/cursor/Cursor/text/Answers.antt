use Rattle.afp_replies.proofs.cursor.Cursor.text.Goals as goal

pub returns : goal.returns
returns c = rw (← c.width.ensures.value) c.counted.ensures
