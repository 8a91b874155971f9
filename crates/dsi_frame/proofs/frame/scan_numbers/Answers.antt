use Rattle.dsi_frame.proofs.HeaderLemmas.{numbers_scanned}
use Rattle.dsi_frame.proofs.frame.scan_numbers.Goals as goal

pub returns-clause-ok : goal.returns-clause-ok
returns-clause-ok c =
    numbers_scanned _ _ _ _ _ _ c.in_ok-_reserved._reserved _ _ _ _ _ _ _ c.new-scan.ensures
    c.in_ok-u8.ensures c.in_ok-u8-2.ensures c.in_ok-u16.ensures c.in_ok-u32.ensures c.in_ok-u32-2.ensures c.in_ok-_reserved.ensures
