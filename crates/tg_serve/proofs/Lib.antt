mod BeginningLemmas
mod ServingLemmas
mod RoundsLemmas
mod MeaningsLemmas
