use Rattle.std.proofs.Common.{sym, ap}
use Rattle.readers.specs.DatadogKeys.{key_prefix, key_of}
use Rattle.readers.proofs.dd_keys.DdKey.prefix.Goals as goal

pub returns-in-Header : goal.returns-in-Header
returns-in-Header c = sym (ap (λ k. key_prefix (key_of k)) c.in-Header.is)
