use Rattle.conversion_law.proofs.Utf8Derived.{derives_utf8_lem}
use Rattle.conversion_law.proofs.Utf8Reading.{reads_utf8_lem}
use Rattle.conversion_law.proofs.TextsAreUtf8.{makes_utf8_lem, span_is_utf8_lem, accepted_is_utf8_lem}
use Rattle.conversion_law.proofs.texts_are_utf8.Goals as goal

pub returns-clause-spans : goal.returns-clause-spans
returns-clause-spans c = span_is_utf8_lem

pub returns-clause-made : goal.returns-clause-made
returns-clause-made c = makes_utf8_lem

pub returns-clause-derived : goal.returns-clause-derived
returns-clause-derived c = derives_utf8_lem

pub returns-clause-readings : goal.returns-clause-readings
returns-clause-readings c = reads_utf8_lem

pub returns-clause-accepted : goal.returns-clause-accepted
returns-clause-accepted c = accepted_is_utf8_lem
