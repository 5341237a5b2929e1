mod Cases
mod NoRun
