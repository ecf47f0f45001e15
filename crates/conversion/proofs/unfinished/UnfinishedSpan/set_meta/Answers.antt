use Rattle.std.proofs.Common.{◌<◌, List, length, refl, ap, arith}
use Rattle.std.proofs.lemmas.List.{length-set}
use Rattle.conversion.specs.Spans.{Text}
use Rattle.conversion.specs.Pieces.{meta_pair, meta_row_end, no_row}
use Rattle.conversion.specs.Tables.{set_meta}
use Rattle.conversion.specs.View.{view}
use Rattle.conversion.proofs.TableLemmas.{set_pairs, set_pairs_past, set_end, set_rows}
use Rattle.conversion.proofs.DigestLemmas.{digested_set}
use Rattle.conversion.proofs.unfinished.UnfinishedSpan.set_meta.Goals as goal

pub invariant_of-self-clause-rows : goal.invariant_of-self-clause-rows
invariant_of-self-clause-rows c = let s = c.args.self.now in set_rows meta_row_end no_row s.meta.now s.meta_len c.args.i _ s.rows

pub invariant_of-self-clause-meta_held : goal.invariant_of-self-clause-meta_held
invariant_of-self-clause-meta_held c =
    let s = c.args.self.now in
    set_end meta_row_end no_row s.meta.now s.meta_len c.args.i _ s.used s.meta_held (λ l m h. let v = c.requires in omega arith)

pub returns-then-i-self : goal.returns-then-i-self
unfolding set_meta
returns-then-i-self c =
    let s = c.args.self.now in
    let l : c.args.i < length s.meta.now = let r = s.rows in omega arith in
    record {
      kept = record { block = refl; room = refl; rows = length-set _ _ _; meta_name = refl; arena_name = refl };
      is = ap (λ (m : List (Text × Text)). record (view s) { meta = m }) (set_pairs (meta_pair s.block.now s.arena.now) no_row s.meta.now s.meta_len c.args.i _ _ c.if-i-self.true l refl);
    }

pub returns-else-i-self : goal.returns-else-i-self
unfolding set_meta
returns-else-i-self c =
    let s = c.args.self.now in
    record {
      kept = record { block = refl; room = refl; rows = refl; meta_name = refl; arena_name = refl };
      is = ap (λ (m : List (Text × Text)). record (view s) { meta = m }) (set_pairs_past (meta_pair s.block.now s.arena.now) no_row s.meta.now s.meta_len c.args.i _ c.if-i-self.false);
    }

pub invariant_of-self-clause-meta_digests : goal.invariant_of-self-clause-meta_digests
invariant_of-self-clause-meta_digests c =
    let s = c.args.self.now in
    digested_set s.block.now s.arena.now s.meta.now s.meta_len c.args.i _ (λ l. (refl, refl)) s.meta_digests
