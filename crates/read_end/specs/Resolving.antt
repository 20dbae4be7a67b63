-- The patterns' places set one record at a time, beside scope's `resolved`, which sets them all. Assumes nothing.
use Rattle.std.specs.Prelude.{ℕ, map, set, get_or}
use Rattle.scope.specs.Records.{Network, no_node, with_nodes, with_demands, no_demand}
use Rattle.scope.specs.Series.{resolved_node, resolved_demand}

-- demand number k, or node number k, with the place of the pattern that it names
abbrev pub demand_resolved : ℕ → Network → Network
demand_resolved k m = with_demands (set m.demands k (resolved_demand m.patterns (get_or m.demands k no_demand))) m

abbrev pub node_resolved : ℕ → Network → Network
node_resolved k m = with_nodes (set m.nodes k (resolved_node m.patterns (get_or m.nodes k no_node))) m

-- all of them
abbrev pub demands_resolved : Network → Network
demands_resolved m = with_demands (map (resolved_demand m.patterns) m.demands) m

abbrev pub nodes_resolved : Network → Network
nodes_resolved m = with_nodes (map (resolved_node m.patterns) m.nodes) m
