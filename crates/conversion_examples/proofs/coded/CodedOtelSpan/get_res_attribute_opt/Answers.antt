use Rattle.std.proofs.Common.{rules, ◌≡◌, ◌==◌, true, sym, ◌∙◌}
use Rattle.readers.specs.Places.{deployment_environment_name}
use Rattle.conversion_examples.proofs.coded.CodedOtelSpan.get_res_attribute_opt.Goals as goal

pub returns-then-is_environment-clause-size : goal.returns-then-is_environment-clause-size
returns-then-is_environment-clause-size c =
    let e : (c.args.key.idx == deployment_environment_name) ≡ true = sym c.is_environment.ensures ∙ c.if-is_environment.true in
    rw e (search rules)

pub returns-then-is_environment-clause-text : goal.returns-then-is_environment-clause-text
returns-then-is_environment-clause-text c =
    let e : (c.args.key.idx == deployment_environment_name) ≡ true = sym c.is_environment.ensures ∙ c.if-is_environment.true in
    rw e (search rules)
