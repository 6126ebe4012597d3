-- The starred cases of the bench sheet hold of the definitions that the contracts cite.
use Rattle.rules.specs.Table as table

pub starred : table.Starred
starred = table.starred
