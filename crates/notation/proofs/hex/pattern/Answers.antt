use Rattle.std.proofs.Common.{rules, sym, ◌∙◌, arith}
use Rattle.notation.proofs.Numerals.{room-more, room_fits, number_more, number-none, pattern_number}
use Rattle.notation.proofs.hex.pattern.Goals as goal

pub overflow_mul-number : goal.overflow_mul-number
overflow_mul-number c =
    let r = room_fits c.loop-b.number c.loop-b.b-index 0 c.loop-b.invariant.0 (omega arith) (omega arith) in
    omega (arith, r)

pub returns-in_err-number : goal.returns-in_err-number
returns-in_err-number c =
    let n = number-none c.loop-b.number c.loop-b.b-index c.args.digits.now c.loop-b-test.true (sym c.in_err-number.ensures.value) in
    c.from_residual.ensures ∙ sym (pattern_number c.args.digits.now c.if-digits-ne16.false ∙ (sym c.loop-b.invariant.1 ∙ n))

pub overflow_add-number : goal.overflow_add-number
overflow_add-number c =
    let r = room_fits c.loop-b.number c.loop-b.b-index c.in_ok-number.field-0 c.loop-b.invariant.0 c.in_ok-number.ensures.bound (omega arith) in
    omega (arith, r)

pub loop-b-preserved : goal.loop-b-preserved
loop-b-preserved c =
    let m = number_more c.loop-b.number c.loop-b.b-index c.args.digits.now c.in_ok-number.field-0 c.loop-b-test.true (sym c.in_ok-number.ensures.value) in
    let r = room-more c.loop-b.number c.loop-b.b-index c.in_ok-number.field-0 c.loop-b.invariant.0 c.in_ok-number.ensures.bound in
    (omega (arith, r), search rules)
