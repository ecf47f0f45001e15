use Rattle.derived.proofs.Names.{given_front}
use Rattle.derived.proofs.span_fields.service_text.Goals as goal

pub returns-in-Some : goal.returns-in-Some
returns-in-Some g c = given_front _ _ _ _ _ c.in-Some.ensures.size c.in-Some.ensures.text c.front.ensures
