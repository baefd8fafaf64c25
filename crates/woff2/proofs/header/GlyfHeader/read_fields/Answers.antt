use Rattle.std.proofs.Common.{arith, le-leb}
use Rattle.woff2.proofs.Headers.{next_32, no_size, then_size, up_to_points}
use Rattle.woff2.proofs.header.GlyfHeader.read_fields.Goals as goal

pub returns-in_err-read-5 : goal.returns-in_err-read-5
returns-in_err-read-5 c =
    let points =
    up_to_points _ _ _ _ _ c.in_ok-_reserved.ensures c.in_ok-read.ensures c.in_ok-read-2.ensures c.in_ok-read-3.ensures c.in_ok-read-4.ensures
    in
    no_size _ _ _ _ points.here (omega arith) c.in_err-read-5.ensures c.from_residual-in_err-read-5.ensures.1

pub returns-in_err-read-7 : goal.returns-in_err-read-7
returns-in_err-read-7 c =
    let points =
    up_to_points _ _ _ _ _ c.in_ok-_reserved.ensures c.in_ok-read.ensures c.in_ok-read-2.ensures c.in_ok-read-3.ensures c.in_ok-read-4.ensures
    in
    let sizes = then_size _ (then_size _ points.here c.in_ok-read-5.ensures) c.in_ok-read-6.ensures in
    no_size _ _ _ _ sizes (omega arith) c.in_err-read-7.ensures c.from_residual-in_err-read-7.ensures.1

pub returns-in_err-read-8 : goal.returns-in_err-read-8
returns-in_err-read-8 c =
    let points =
    up_to_points _ _ _ _ _ c.in_ok-_reserved.ensures c.in_ok-read.ensures c.in_ok-read-2.ensures c.in_ok-read-3.ensures c.in_ok-read-4.ensures
    in
    let sizes = then_size _ (then_size _ (then_size _ points.here c.in_ok-read-5.ensures) c.in_ok-read-6.ensures) c.in_ok-read-7.ensures in
    no_size _ _ _ _ sizes (omega arith) c.in_err-read-8.ensures c.from_residual-in_err-read-8.ensures.1

pub returns-in_err-read-9 : goal.returns-in_err-read-9
returns-in_err-read-9 c =
    let points =
    up_to_points _ _ _ _ _ c.in_ok-_reserved.ensures c.in_ok-read.ensures c.in_ok-read-2.ensures c.in_ok-read-3.ensures c.in_ok-read-4.ensures
    in
    let sizes = then_size _ (then_size _ (then_size _ (then_size _ points.here c.in_ok-read-5.ensures) c.in_ok-read-6.ensures) c.in_ok-read-7.ensures) c.in_ok-read-8.ensures in
    no_size _ _ _ _ sizes (omega arith) c.in_err-read-9.ensures c.from_residual-in_err-read-9.ensures.1

pub returns : goal.returns
returns c =
    let points =
    up_to_points _ _ _ _ _ c.in_ok-_reserved.ensures c.in_ok-read.ensures c.in_ok-read-2.ensures c.in_ok-read-3.ensures c.in_ok-read-4.ensures
    in
    let flags = next_32 _ _ _ _ points.here _ c.in_ok-read-5.ensures in
    let glyphs = next_32 _ _ _ _ flags.1 _ c.in_ok-read-6.ensures in
    let composites = next_32 _ _ _ _ glyphs.1 _ c.in_ok-read-7.ensures in
    let boxes = next_32 _ _ _ _ composites.1 _ c.in_ok-read-8.ensures in
    let instructions = next_32 _ _ _ _ boxes.1 _ c.in_ok-read-9.ensures in
    let e5 = flags.0 in
    let e6 = glyphs.0 in
    let e7 = composites.0 in
    let e8 = boxes.0 in
    let e9 = instructions.0 in
    rw (le-leb 36 _ instructions.1.inside) (cc)
