use Rattle.std.proofs.Common.{◌≡◌, ◌+◌, ◌≤◌, drop, length}
use Rattle.acl_text.specs.Ipv6.{zeros, longest_run}
use Rattle.acl_text.proofs.ipv6_text.zero_runs.Given as goal

abbrev pub invariant-loop-at : goal.invariant-loop-at
invariant-loop-at l = record {
  within : l.at ≤ length l.groups;
  front : l.front ≡ zeros (drop l.at l.groups);
  longest : (l.before, l.run) ≡ longest_run (drop l.at l.groups);
  front_within : l.front + l.at ≤ length l.groups;
  run_within : l.before + l.run + l.at ≤ length l.groups;
}

abbrev pub decreases-loop-at : goal.decreases-loop-at
decreases-loop-at l = l.at
