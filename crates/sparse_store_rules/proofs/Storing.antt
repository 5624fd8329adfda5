-- The laws of one storing, gathered.
-- Assumes nothing.
use Rattle.sparse_store_rules.specs.Storing.{Storing}
use Rattle.sparse_store_rules.proofs.Cut.{refused_stores_nothing, refused_cut_nothing, store_twice, cut_numbers, limit_whole, limit_counts}
use Rattle.sparse_store_rules.proofs.Blocks.{cut_state, cut_state_only, limit_cut, limit_reached, cut_at}

pub storing : Storing
storing =
    record {
      refused_stores_nothing = refused_stores_nothing;
      refused_cut_nothing = refused_cut_nothing;
      refusal_numbers = cut_numbers;
      store_twice = store_twice;
      accepted_stored = λ s p ks e.
          record {
            limit_whole = limit_whole s p ks e;
            limit_counts = limit_counts s p ks e;
            cut_state = cut_state s p ks e;
            cut_state_only = cut_state_only s p ks e;
            limit_cut = limit_cut s p ks e;
            limit_reached = limit_reached s p ks e;
            cut_at = cut_at s p ks e;
          };
    }
