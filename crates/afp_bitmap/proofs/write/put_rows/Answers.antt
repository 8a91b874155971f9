use Rattle.std.proofs.Common.{ap, length, ℕ}
use Rattle.std.proofs.lemmas.Result.{on_ok_weaker}
use Rattle.afp_bitmap.proofs.InPlace.{long_can, utf8_can, written_behind}
use Rattle.afp_bitmap.proofs.write.put_rows.Goals as goal

pub put_long_name-requires-clause-can : goal.put_long_name-requires-clause-can
put_long_name-requires-clause-can c =
    long_can _ _ c.args.out.now _ _ (record {
      at = ap (length {A = ℕ}) c.as_slice-base.ensures;
      formed = c.requires.formed;
      sized_so = c.requires.sized;
      countable = c.requires.names;
      small = c.requires.small;
      out_is = c.in_ok-spots.ensures.bytes;
      spots_are = c.in_ok-spots.ensures.spots;
    })

pub put_utf8_name-requires-clause-can : goal.put_utf8_name-requires-clause-can
put_utf8_name-requires-clause-can c =
    utf8_can _ _ c.args.out.now _ _ _ (record {
      at = ap (length {A = ℕ}) c.as_slice-base.ensures;
      formed = c.requires.formed;
      sized_so = c.requires.sized;
      countable = c.requires.names;
      small = c.requires.small;
      out_is = c.in_ok-spots.ensures.bytes;
      spots_are = c.in_ok-spots.ensures.spots;
    }) c.in_ok-put_long_name.ensures.ok

pub returns-clause-ok : goal.returns-clause-ok
returns-clause-ok c =
    on_ok_weaker c.put_utf8_name.result
    (written_behind _ _ c.args.out.now _ _ c.put_utf8_name.new.out _ (record {
      at = ap (length {A = ℕ}) c.as_slice-base.ensures;
      formed = c.requires.formed;
      sized_so = c.requires.sized;
      countable = c.requires.names;
      small = c.requires.small;
      out_is = c.in_ok-spots.ensures.bytes;
      spots_are = c.in_ok-spots.ensures.spots;
    }) c.in_ok-put_long_name.ensures.ok)
    c.put_utf8_name.ensures.ok
