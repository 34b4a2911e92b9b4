-- The published page, and the derived page over any other, each with the proof of its law.
use Rattle.calculus.specs.Pages.{Page}
use Rattle.calculus.specs.Published.{published}
use Rattle.calculus.specs.Derived.{derived}
use Rattle.calculus.proofs.Lawful.{published_lawful, derived_lawful}

abbrev pub published_page : Page
published_page = record { verdict = published; lawful = published_lawful }

abbrev pub derived_page : Page → Page
derived_page below = record { verdict = derived below.verdict; lawful = derived_lawful below }
