use Rattle.std.proofs.Common.{rules, ◌≡◌, ◌==◌, true, sym, ◌∙◌}
use Rattle.readers.specs.Places.{http_response_status_code}
use Rattle.conversion_examples.proofs.coded.CodedOtelSpan.get_attr_str_opt.Goals as goal

pub returns-then-is_code-clause-size : goal.returns-then-is_code-clause-size
returns-then-is_code-clause-size c =
    let e : (c.args.key.idx == http_response_status_code) ≡ true = sym c.is_code.ensures ∙ c.if-is_code.true in
    rw e (search rules)

pub returns-then-is_code-clause-text : goal.returns-then-is_code-clause-text
returns-then-is_code-clause-text c =
    let e : (c.args.key.idx == http_response_status_code) ≡ true = sym c.is_code.ensures ∙ c.if-is_code.true in
    rw e (search rules)
