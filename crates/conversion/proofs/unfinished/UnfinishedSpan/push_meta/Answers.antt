use Rattle.std.proofs.Common.{◌+◌, List, refl, ap, arith}
use Rattle.std.proofs.lemmas.List.{length-set}
use Rattle.conversion.specs.Spans.{Text}
use Rattle.conversion.specs.Pieces.{meta_pair, meta_row_end, no_row}
use Rattle.conversion.specs.Tables.{push_meta}
use Rattle.conversion.specs.View.{view}
use Rattle.conversion.proofs.TableLemmas.{push_pairs, push_pairs_full, push_end, set_rows}
use Rattle.conversion.proofs.DigestLemmas.{digested_push}
use Rattle.conversion.proofs.unfinished.UnfinishedSpan.push_meta.Goals as goal

pub invariant_of-self-clause-rows : goal.invariant_of-self-clause-rows
invariant_of-self-clause-rows c = let s = c.args.self.now in set_rows meta_row_end no_row s.meta.now (s.meta_len + 1) s.meta_len _ (omega arith)

pub invariant_of-self-clause-meta_held : goal.invariant_of-self-clause-meta_held
invariant_of-self-clause-meta_held c =
    let s = c.args.self.now in
    push_end meta_row_end no_row s.meta.now s.meta_len _ s.used c.if-n-self.true s.meta_held (let k = c.requires.key in let v = c.requires.value in omega arith)

pub returns-then-n-self : goal.returns-then-n-self
unfolding push_meta
returns-then-n-self c =
    let s = c.args.self.now in
    record {
      kept = record { block = refl; room = refl; rows = length-set _ _ _; meta_name = refl; arena_name = refl };
      is = ap (λ (m : List (Text × Text)). record (view s) { meta = m }) (push_pairs (meta_pair s.block.now s.arena.now) no_row s.meta.now s.meta_len _ c.if-n-self.true);
    }

pub returns-else-n-self : goal.returns-else-n-self
unfolding push_meta
returns-else-n-self c =
    let s = c.args.self.now in
    record {
      kept = record { block = refl; room = refl; rows = refl; meta_name = refl; arena_name = refl };
      is = ap (λ (m : List (Text × Text)). record (view s) { meta = m }) (push_pairs_full (meta_pair s.block.now s.arena.now) no_row s.meta.now s.meta_len _ s.rows c.if-n-self.false);
    }

pub invariant_of-self-clause-meta_digests : goal.invariant_of-self-clause-meta_digests
invariant_of-self-clause-meta_digests c =
    let s = c.args.self.now in
    digested_push s.block.now s.arena.now s.meta.now s.meta_len _ c.if-n-self.true c.digest_of-digest.ensures s.meta_digests
